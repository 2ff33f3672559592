-- Constructors and calls, with their arguments.
use Rattle.std.proofs.Common.{◌≡◌, ℕ, List, [], ◌∷◌, Option, Some, None, length, refl, sym, ◌∙◌, ap}
use Rattle.std.proofs.Common.{subst}
use Rattle.ml_pat.specs.Patterns.{Pattern, equal, constant}
use Rattle.ml_derived.specs.Equalities.{AreJoinable, IsJoin}
use Rattle.ml_kernel.specs.Lemmas.{HasNoVariable}
use Rattle.ml_kernel.specs.Theorems.{Theorem}
use Rattle.term_core.specs.Terms.{Tree, Forest, node}
use Rattle.term_core.specs.Patterns.{Pattern as RulePattern, Patterns as RulePatterns, application}
use Rattle.term_core.specs.Patterns.{call, ground_pattern, ground_patterns}
use Rattle.term_core.specs.PatternLists.{plain_patterns}
use Rattle.term_core.specs.declared.rule_patterns.RulePat.{RulePat}
use Rattle.rule_core.specs.declared.rules.Program.{Program}
use Rattle.rule_core.specs.Records.{Record, RecordList, RecordAll, result_of, results_of}
use Rattle.rule_core.specs.ProgramView.{theory_of}
use Rattle.ml_image.specs.Images.{applied, symbol_image}
use Rattle.ml_image.specs.Sentences.{term}
use Rattle.prove_term.specs.Contexts.{Context, HasGrown, StaysInWith}
use Rattle.prove_term.specs.Schemas.{AreImages}
use Rattle.prove_term.specs.Applications.{HasClosedSides, applied_to}
use Rattle.prove_term.specs.Comparing.{IsOverContext}
use Rattle.prove_term.specs.Filling.{all_filled}
use Rattle.prove_term.proofs.ContextLaws.{image_grown}
use Rattle.prove_term.proofs.KeptLaws.{symbol_grown}
use Rattle.prove_term.proofs.ComparingLaws.{application_image}
use Rattle.prove_term.proofs.ComparingCalls.{head_over}
use Rattle.prove_fun.specs.RecordParts.{children_of}
use Rattle.prove_fun.specs.Evaluating.{IsRecorded, AreRecorded, IsImage, SaysEqual, HasEqual}
use Rattle.prove_fun.specs.Evaluating.{IsEvaluated, AreEvaluated, SaysCall}
use Rattle.prove_fun.proofs.Recording.{as_many_records, constructor_recorded}
use Rattle.prove_fun.proofs.Equalities.{closed_sides, says_grown, joinable}
use Rattle.prove_fun.proofs.Equalities.{joined_says}
use Rattle.prove_fun.proofs.Gathering.{as_many_images}

-- an image that is a symbol's constant applied to the images of the results, one for each argument
pub record IsNode (cx : Context) (f : ℕ) (rs : RecordList) (args : List RulePat) (image : Pattern) :
    Type 0 where
  pub number : ℕ
  pub is_head : symbol_image cx.program.sig cx.names f ≡ Some (constant number)
  pub images : List Pattern
  pub are_images : AreImages cx.program.sig cx.names (ground_patterns (results_of rs)) images
  pub is : image ≡ applied_to (constant number) images
  pub many : length args ≡ length images
  pub head : HasNoVariable (constant number) × IsOverContext cx (constant number)

pub node_of : (cx : Context) (program : Program) (theta : List (Option Tree)) (f : ℕ)
    (rs : RecordList) (args : List RulePat) (image : Pattern)
    → RecordAll (theory_of program) theta (plain_patterns args) rs
    → IsImage cx (application f (ground_patterns (results_of rs))) image → IsNode cx f rs args image
node_of cx program theta f rs args image all is =
    let w : (c : ℕ) × (qs : List Pattern) ×
    (symbol_image cx.program.sig cx.names f ≡ Some (constant c)) × AreImages cx.program.sig
    cx.names (ground_patterns (results_of rs)) qs × (image ≡ applied_to (constant c) qs) =
    application_image cx.program.sig cx.names f (ground_patterns (results_of rs)) image is in
    record {
      number = w.0;
      is_head = w.2;
      images = w.1;
      are_images = w.3;
      is = w.4;
      many = sym (as_many_records program theta args rs all)
          ∙ as_many_images cx.program.sig cx.names rs w.1 w.3;
      head = head_over cx f w.0 w.2;
    }

-- the node follows from what is known of the arguments
pub node_evaluated : (old cx : Context) (theta : List (Option Tree)) (f c : ℕ) (ps : RulePatterns)
    (whole : Pattern) (o : Option Theorem) → HasGrown old cx
    → symbol_image old.program.sig old.names f ≡ Some (constant c)
    → AreEvaluated cx theta ps (constant c) whole o
    → HasEqual cx (application f (all_filled theta ps)) whole o
node_evaluated old cx theta f c ps whole o g head are = record {
  left = are.left;
  left_image =
      ap (λ (h : Option Pattern). applied cx.program.sig cx.names h (all_filled theta ps))
      (symbol_grown old cx f (constant c) g head) ∙ are.left_image;
  closed = are.closed;
  equates = are.equates;
}

pub call_evaluated : (cx : Context) (f : ℕ) (qs : RulePatterns) (whole : Pattern)
    (o : Option Theorem) → HasEqual cx (application f qs) whole o
    → HasEqual cx (call f [] qs) whole o
call_evaluated cx f qs whole o h = record {
  left = h.left;
  left_image = h.left_image;
  closed = h.closed;
  equates = h.equates;
}

-- ---- a constructor

pub record IsConstructor (cx : Context) (theta : List (Option Tree)) (f : ℕ) (args : List RulePat)
    (r : Record) (image : Pattern) : Type 0 where
  pub recorded : AreRecorded cx.program theta (plain_patterns args) (children_of r)
  pub node : IsNode cx f (children_of r) args image

pub constructor_parts : (cx : Context) (theta : List (Option Tree)) (p : RulePattern) (f : ℕ)
    (args : List RulePat) (r : Record) (image : Pattern)
    → p ≡ application f (plain_patterns args) → IsRecorded cx.program theta p r
    → IsImage cx (ground_pattern (result_of r)) image → IsConstructor cx theta f args r image
constructor_parts cx theta p f args r image is h image_is =
    let m : (result_of r ≡ node f (results_of (children_of r))) × AreRecorded cx.program theta
    (plain_patterns args) (children_of r) =
    constructor_recorded cx.program theta f (plain_patterns args) r
    (subst (λ (q : RulePattern). IsRecorded cx.program theta q r) is h) in
    let image' : IsImage cx (application f (ground_patterns (results_of (children_of r)))) image =
    subst (λ (t : Tree). IsImage cx (ground_pattern t) image) m.0 image_is in
    record {
      recorded = m.1;
      node = node_of cx cx.program theta f (children_of r) args image m.1.records image';
    }

pub constructor_evaluated : (old cx : Context) (theta : List (Option Tree)) (p : RulePattern)
    (f : ℕ) (args : List RulePat) (rs : RecordList) (image head : Pattern)
    (images : List Pattern) (o : Option Theorem) → p ≡ application f (plain_patterns args)
    → (n : IsNode old f rs args image) → HasGrown old cx → head ≡ constant n.number
    → images ≡ n.images
    → AreEvaluated cx theta (plain_patterns args) head (applied_to head images) o
    → IsEvaluated cx theta p image o
constructor_evaluated old cx theta p f args rs image head images o is n g is_head are
    are_evaluated =
    let whole : applied_to head images ≡ image =
    ap (λ (h : Pattern). applied_to h images) is_head ∙ ap (applied_to (constant n.number)) are
    ∙ sym n.is in
    let all : AreEvaluated cx theta (plain_patterns args) (constant n.number) image o =
    subst (λ (h : Pattern). AreEvaluated cx theta (plain_patterns args) h image o) is_head
    (subst (λ (w : Pattern). AreEvaluated cx theta (plain_patterns args) head w o) whole
    are_evaluated) in
    subst (λ (q : RulePattern). IsEvaluated cx theta q image o) (sym is)
    (node_evaluated old cx theta f n.number (plain_patterns args) image o g n.is_head all)

-- ---- a call, with a theorem on the values of its arguments

pub call_parts : (cx : Context) (program : Program) (theta : List (Option Tree)) (f : ℕ)
    (args : List RulePat) (rs : RecordList) (right left other : Pattern) (fact : Theorem)
    → RecordAll (theory_of program) theta (plain_patterns args) rs
    → (s : SaysCall cx f (results_of rs) right fact) → fact.conclusion ≡ equal left other
    → IsNode cx f rs args left × (left ≡ s.left)
call_parts cx program theta f args rs right left other fact all s is =
    let same : left ≡ s.left = left_same left s.left other right (sym is ∙ s.equal.says) in (
      node_of cx program theta f rs args left all (subst
          (λ (q : Pattern). IsImage cx (call f [] (ground_patterns (results_of rs))) q) (sym same)
          s.left_image),
      same,
    )
  where
    left_same : (a b c d : Pattern) → equal a c ≡ equal b d → a ≡ b
    left_same a b c d e = cc

pub values_evaluated : (old cx : Context) (theta : List (Option Tree)) (f : ℕ) (args : List RulePat)
    (rs : RecordList) (left head : Pattern) (images : List Pattern) (o : Option Theorem)
    → (n : IsNode old f rs args left) → HasGrown old cx → head ≡ constant n.number
    → images ≡ n.images
    → AreEvaluated cx theta (plain_patterns args) head (applied_to head images) o
    → HasEqual cx (call f [] (all_filled theta (plain_patterns args))) left o
values_evaluated old cx theta f args rs left head images o n g is_head are are_evaluated =
    let h : HasEqual cx (application f (all_filled theta (plain_patterns args))) left o =
    constructor_evaluated old cx theta (application f (plain_patterns args)) f args rs left head
    images o refl n g is_head are are_evaluated in
    call_evaluated cx f (all_filled theta (plain_patterns args)) left o h

-- with equalities for the values of the arguments
pub call_joinable : (old cx : Context) (f : ℕ) (ts : Forest) (p : RulePattern)
    (left right : Pattern) (same fact : Theorem) → HasGrown old cx
    → (s : SaysCall old f ts right fact) → left ≡ s.left → HasEqual cx p left (Some same)
    → AreJoinable same.conclusion fact.conclusion
call_joinable old cx f ts p left right same fact g s is h =
    joinable cx h.left left right same fact h.closed h.equates (subst
    (λ (q : Pattern). SaysEqual cx q right fact) (sym is)
    (says_grown old cx s.left right fact g s.equal))

pub call_closed : (old : Context) (f : ℕ) (ts : Forest) (right : Pattern) (fact : Theorem)
    → SaysCall old f ts right fact → HasClosedSides fact.conclusion
call_closed old f ts right fact s =
    closed_sides old s.left right fact s.closed s.closed_right s.equal

pub call_joined : (old mid cx : Context) (f : ℕ) (ts : Forest) (p : RulePattern)
    (left right : Pattern) (same fact t : Theorem) → HasGrown old mid → HasGrown mid cx
    → (s : SaysCall old f ts right fact) → left ≡ s.left → HasEqual mid p left (Some same)
    → IsJoin same.conclusion fact.conclusion t.conclusion
    → StaysInWith cx [] (same ∷ fact ∷ []) t → HasEqual cx p right (Some t)
call_joined old mid cx f ts p left right same fact t g k s is before joins stays = record {
  left = before.left;
  left_image = image_grown mid cx (term p) before.left k before.left_image;
  closed = before.closed;
  equates =
      joined_says mid cx before.left left right same fact t k before.equates (subst
      (λ (q : Pattern). SaysEqual mid q right fact) (sym is)
      (says_grown old mid s.left right fact g s.equal)) joins stays;
}

pub call_alone : (old cx : Context) (f : ℕ) (ts : Forest) (p : RulePattern) (left right : Pattern)
    (fact t : Theorem) → HasGrown old cx → (s : SaysCall old f ts right fact) → left ≡ s.left
    → HasEqual cx p left None → t ≡ fact → HasEqual cx p right (Some t)
call_alone old cx f ts p left right fact t g s is h same = record {
  left = h.left;
  left_image = h.left_image;
  closed = h.closed;
  equates =
      subst (SaysEqual cx h.left right) (sym same) (subst
      (λ (q : Pattern). SaysEqual cx q right fact) (sym (h.equates ∙ is))
      (says_grown old cx s.left right fact g s.equal));
}
