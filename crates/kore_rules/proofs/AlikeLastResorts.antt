-- Two signatures that agree have the same equations of the last resort among the same axioms.
use Rattle.std.proofs.Common.{ℕ, ◌&&◌, List, [], ◌∷◌, sym, ap, ◌∙◌}
use Rattle.std.proofs.Common.{inl, inr}
use Rattle.std.specs.Prelude.{count_by}
use Rattle.std.specs.List.{AllZip}
use Rattle.std.proofs.lemmas.List.Elements.{All-weaker}
use Rattle.kore_text.specs.Trees.{AxiomDeclaration}
use Rattle.rule_core.specs.AcSymbols.{IsAcFree}
use Rattle.rule_core.specs.Rules.{Equation, Guard}
use Rattle.rule_core.specs.declared.signature.Signature.{Signature}
use Rattle.rule_core.specs.declared.signature.SymInfo.{SymInfo}
use Rattle.kore_sig.specs.SignatureLaws.{AreSameSignature}
use Rattle.kore_shapes.specs.Statements.{StatedEquation}
use Rattle.kore_shapes.specs.EquationForms.{EquationParts}
use Rattle.kore_shapes.specs.LastResorts.{GuardParts, LastResortParts}
use Rattle.kore_equations.specs.Guards.{MeansGuard, RepeatsSome}
use Rattle.kore_equations.specs.LastResortEquations.{MeansLastResort}
use Rattle.kore_rules.specs.EquationsAmong.{AreOrdinary, is_equation_of, is_last_resort}
use Rattle.kore_rules.specs.EquationsAmong.{IsLastResortAmong, IsEquationAmong, IsUnreadableAmong}
use Rattle.kore_rules.proofs.AlikeMeanings.{equation_carried, states_carried, parts_carried}
use Rattle.kore_rules.proofs.AlikeMeanings.{meaning_carried, repeats_carried, class_carried}
use Rattle.kore_rules.proofs.AlikeSignatures.{IsAlike, signatures_back, alike_back, entry_alike}

module _ (u v : Signature) (same : AreSameSignature u v) where
  abbrev back : AreSameSignature v u
  back = signatures_back u v same

  free_carried : IsAcFree u → IsAcFree v
  free_carried free = λ f (info, (name, there), kind, ac).
      let found = entry_alike v.symbols u.symbols f (name, info) back.symbols there in
      free f (
        found.0.1,
        (found.0.0, found.1),
        sym found.2.kind ∙ kind,
        sym found.2.ac ∙ ac,
      )

  ordinary_carried : (axioms : List AxiomDeclaration) (f : List ℕ) (es : List Equation)
      → AreOrdinary u axioms f es → AreOrdinary v axioms f es
  ordinary_carried axioms f es h = record {
    just = λ e. (
      λ has. let some = (h.just e).0 has in
          (some.0, some.1, equation_carried u v same f some.0 e some.2),
      λ (a, there, is). (h.just e).1 (a, there, equation_carried v u back f a e is),
    );
    in_order = h.in_order;
  }

  module _ (a : AxiomDeclaration) (info other : SymInfo) (d : StatedEquation) (q : EquationParts)
      (es : List Equation) (alike : IsAlike info other) where
    guard_carried : (g : GuardParts) (m : Guard) → MeansGuard u info d.over es g m
        → MeansGuard v other d.over es g m
    guard_carried g m h = record {
      equation = h.equation;
      listed = h.listed;
      repeats = repeats_carried u v same a info other d q g h.equation m.order alike h.repeats;
      first = λ i e order low there r.
          h.first i e order low there
          (repeats_carried v u back a other info d q g e order (alike_back info other alike) r);
    }

    guards_carried : (gs : List GuardParts) (ms : List Guard)
        → AllZip (MeansGuard u info d.over es) gs ms → AllZip (MeansGuard v other d.over es) gs ms
    guards_carried [] [] all = tt
    guards_carried [] (m ∷ ms) all = absurd all
    guards_carried (g ∷ gs) [] all = absurd all
    guards_carried (g ∷ gs) (m ∷ ms) all = (guard_carried g m all.0, guards_carried gs ms all.1)

    some_carried : (g : GuardParts) → RepeatsSome u info d.over es g
        → RepeatsSome v other d.over es g
    some_carried g (i, e, order, there, r) =
        (i, e, order, there, repeats_carried u v same a info other d q g e order alike r)

  last_resort_carried : (f : List ℕ) (es : List Equation) (a : AxiomDeclaration) (x : Equation)
      → MeansLastResort u f es a x → MeansLastResort v f es a x
  last_resort_carried f es a x r =
      let other = states_carried u v same f a r.stated r.info r.states in
      let q : LastResortParts = r.parts in record {
        stated = r.stated;
        info = other.0;
        states = other.2;
        parts = q;
        readable = record {
          last_resort = r.readable.last_resort;
          form = r.readable.form;
          no_ac = free_carried r.readable.no_ac;
          parts =
              parts_carried u v same a r.info other.0 r.stated q.equation other.1 r.readable.parts;
          guards =
              All-weaker (RepeatsSome u r.info r.stated.over es)
              (RepeatsSome v other.0 r.stated.over es)
              (some_carried a r.info other.0 r.stated q.equation es other.1) q.guards
              r.readable.guards;
          last = r.readable.last;
        };
        means = meaning_carried u v same a r.stated q.equation x r.means;
        guards = r.guards;
        mean_guards =
            guards_carried a r.info other.0 r.stated q.equation es other.1 q.guards r.guards
            r.mean_guards;
        last_resort = r.last_resort;
      }

  last_among_carried : (axioms : List AxiomDeclaration) (f : List ℕ) (a : AxiomDeclaration)
      (x : Equation) → IsLastResortAmong u axioms f a x → IsLastResortAmong v axioms f a x
  last_among_carried axioms f a x h = record {
    only =
        sym (λ i. count_by (λ (b : AxiomDeclaration).
        is_last_resort b && is_equation_of f (class_carried u v same b i)) axioms) ∙ h.only;
    others = h.others;
    ordinary = ordinary_carried axioms f h.others h.ordinary;
    means = last_resort_carried f h.others a x h.means;
  }

  pub among_carried : (axioms : List AxiomDeclaration) (f : List ℕ) (a : AxiomDeclaration)
      (x : Equation) → IsEquationAmong u axioms f a x → IsEquationAmong v axioms f a x
  among_carried axioms f a x (inl is) = inl (equation_carried u v same f a x is)
  among_carried axioms f a x (inr is) = inr (last_among_carried axioms f a x is)

pub unreadable_carried : (u v : Signature) → AreSameSignature u v
    → (axioms : List AxiomDeclaration) (f : List ℕ) (a : AxiomDeclaration)
    → IsUnreadableAmong u axioms f a → IsUnreadableAmong v axioms f a
unreadable_carried u v same axioms f a h = record {
  states = sym (ap (is_equation_of f) (class_carried u v same a)) ∙ h.states;
  unreadable = λ e is.
      h.unreadable e (among_carried v u (signatures_back u v same) axioms f a e is);
}
