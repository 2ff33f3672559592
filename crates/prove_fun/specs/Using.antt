-- Recorded uses of equations.
use Rattle.std.specs.Prelude.{◌≡◌, ℕ, List, [], Option, Some, IfSome, length, map, option_map}
use Rattle.std.specs.Prelude.{slice_get}
use Rattle.std.specs.Global.{Box}
use Rattle.term_core.specs.Terms.{Tree, Forest}
use Rattle.term_core.specs.Patterns.{Pattern}
use Rattle.ml_kernel.specs.Theorems.{Theorem}
use Rattle.rule_core.specs.Rules.{Equation, Guard}
use Rattle.rule_core.specs.Theories.{equations_of}
use Rattle.rule_core.specs.Sorting.{IsSymbol}
use Rattle.rule_core.specs.MatchLaws.{AreTermsOf}
use Rattle.rule_core.specs.Evaluation.{IsTrueValue, MatchesBy}
use Rattle.rule_core.specs.ProgramView.{theory_of}
use Rattle.rule_core.specs.Records.{Record, OptionalRecord, Miss, RecordsCondition}
use Rattle.rule_core.specs.Records.{by_equation, result_of}
use Rattle.rule_core.specs.RecordView.{optional, plain_record, plain_layer, plain_miss, plain_use}
use Rattle.rule_core.specs.RecordView.{records, misses}
use Rattle.rule_core.specs.declared.records.EqRecord.{EqRecord}
use Rattle.rule_core.specs.declared.records.EvalRecord.{EvalRecord}
use Rattle.rule_core.specs.declared.records.EvalRecord.TheFolds.{fold-Miss}
use Rattle.rule_core.specs.declared.records.Miss.{Miss as CodeMiss}
use Rattle.rule_core.specs.declared.rules.Program.{Program}
use Rattle.rule_core.specs.declared.signature.SymInfo.{SymInfo}
use Rattle.rule_core.specs.declared.signature.SymKind.TheVariants.{Equations}
use Rattle.prove_term.specs.Contexts.{Context}
use Rattle.prove_equation.specs.Conditions.{SaysCondition}
use Rattle.prove_fun.specs.Evaluating.{IsRecorded}
use Rattle.prove_fun.specs.Missing.{AreMissedAt}

-- the plain record of the condition of the used equation, if it has one
abbrev pub condition_record : EqRecord → OptionalRecord
condition_record used =
    optional (option_map (λ (b : Box EvalRecord). plain_record b.value) used.cond)

-- why an equation is not used, as a plain record
abbrev pub missed_record : CodeMiss → Miss
missed_record = fold-Miss Record Miss Record plain_layer plain_miss plain_use

-- the same for each of the equations before the used one
abbrev pub missed_records : EqRecord → List Miss
missed_records used = map missed_record used.missed.items

-- the plain record of the use of an equation
abbrev pub used_record : EqRecord → Record
used_record used =
    by_equation used.fun.0 (records (map plain_record used.args.items)) used.equation used.subst
    (condition_record used) (plain_record used.body.value)
    (misses (missed_records used))

-- The equation number i of the function f was used. It was used at the terms ts, with the
-- substitution sigma, and with records of its condition and of its right side. If it is one of the
-- last resort, each equation before it is missed at these terms.
pub record IsUse (program : Program) (f : ℕ) (ts : Forest) (i : ℕ) (sigma : List (Option Tree))
    (condition : OptionalRecord) (body : Record) (missed : List Miss) : Type 0 where
  pub info : SymInfo
  pub function : IsSymbol program.sig f info
  pub by_equations : info.kind ≡ Equations
  pub equation : Equation
  pub there : slice_get (equations_of (theory_of program) f) i ≡ Some equation
  pub matches : MatchesBy (theory_of program) equation ts sigma
  pub condition_held : RecordsCondition (theory_of program) sigma equation.condition condition
  pub conditional : (p : Pattern) (q : Record) → equation.condition ≡ Some p
      → condition ≡ optional (Some q)
      → (h : IsRecorded program sigma p q) × (h.variables ≡ equation.variables)
      × IsTrueValue (result_of q)
  pub right : IsRecorded program sigma equation.right body
  pub sorted : AreTermsOf program.sig [] ts info.args.items
  pub are_missed : AreMissedAt program f ts missed
  pub all_missed : IfSome equation.last_resort (λ (gs : List Guard). length missed ≡ i)

-- the record says that an equation of the function f was used at the terms ts
abbrev pub IsUseRecord : Program → ℕ → Forest → EqRecord → Type 0
IsUseRecord program f ts used =
    IsUse program f ts used.equation used.subst (condition_record used)
    (plain_record used.body.value) (missed_records used)

-- the theorem says that the condition of equation i of the function f holds
abbrev pub SaysConditionAt : Context → ℕ → ℕ → List (Option Tree) → Option Theorem → Type 0
SaysConditionAt cx f i sigma o =
    (e : Equation) → slice_get (equations_of (theory_of cx.program) f) i ≡ Some e →
    SaysCondition cx e.variables sigma e.condition o
