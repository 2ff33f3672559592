-- What a left side with the names of its parts implies, part by part.
use Rattle.std.proofs.Common.{◌≡◌, ◌≢◌, ◌⊎◌, inl, inr, ℕ, ◌+◌, ◌<◌, Bool, true, false, List, [], ◌∷◌, Option, Some}
use Rattle.std.proofs.Common.{length, drop, get_or, refl, sym, ◌∙◌, ap, subst, arith, eq-eqb}
use Rattle.std.specs.Prelude.{◌==◌, ◌||◌, if◌then◌else◌}
use Rattle.std.specs.Global.{Vec}
use Rattle.std.proofs.lemmas.Bool.{eqb-true}
use Rattle.std.proofs.lemmas.List.{drop_more}
use Rattle.ml_pat.specs.Patterns.{Pattern, imp, app}
use Rattle.ml_pat.specs.Patterns as logic
use Rattle.ml_kernel.specs.Theorems.{Theorem}
use Rattle.ml_derived.specs.Implications.{IsChain}
use Rattle.ml_derived.specs.Scopes.{IsOver, StaysWithin}
use Rattle.term_core.specs.Patterns.{Pattern as RulePattern, variable}
use Rattle.term_core.specs.Patterns.{application, injection}
use Rattle.term_core.specs.PatternLists.{plain_patterns}
use Rattle.term_core.specs.RulePatterns.{plain_pattern}
use Rattle.term_core.specs.declared.ids.SortId.{SortId}
use Rattle.term_core.specs.declared.ids.SymId.{SymId}
use Rattle.term_core.specs.declared.values.Value.{Value}
use Rattle.term_core.specs.declared.rule_patterns.RulePat.{RulePat}
use Rattle.term_core.specs.declared.rule_patterns.RulePat.TheVariants as form
use Rattle.term_core.proofs.PlainPatterns.{plain-Var, plain-Value, plain-Call}
use Rattle.rule_core.specs.NamedParts.{Name}
use Rattle.ml_image.specs.Images.{both, image_of, applied, symbol_image}
use Rattle.ml_image.specs.NamedSides.{left_sentence, applied_sides, named_part, named_parts}
use Rattle.ml_image.specs.NamedSides.{of_child, of_whole}
use Rattle.ml_image.specs.PartNames.{part_name, part_names, part_sentence}
use Rattle.ml_image.specs.Sentences.{Sentence, term, symbol, inject, apply, and, sentence_image}
use Rattle.ml_image.specs.declared.naming.PartName.{PartName}
use Rattle.ml_image.proofs.NamedLaws.{plain_left, left_parts}
use Rattle.prove_term.specs.Contexts.{Context}
use Rattle.refute.specs.Choosing.{is_named, or_name, chosen, all_chosen, part_chosen}
use Rattle.refute.specs.Dropping.{Implies, IsApplied, with_name}
use Rattle.refute.proofs.ChosenLaws.{chosen_parts, chosen_none}
use Rattle.refute.proofs.WholeNames.{named_from, unnamed_from, none_left}

-- ---- one theorem

-- an image implies itself
implies_itself : (cx : Context) (s r : Sentence) (p : Pattern) (t : Theorem)
    → sentence_image cx.program.sig cx.names s ≡ Some p
    → sentence_image cx.program.sig cx.names r ≡ Some p → t.conclusion ≡ imp p p
    → StaysWithin (p ∷ []) [] t → Implies cx s r t
implies_itself cx s r p t one other says stays = record {
  from = p;
  is_from = one;
  to = p;
  is_to = other;
  says = says;
  stays = λ scope has. stays scope (has.images s p one, tt) tt;
}

applied_image : (cx : Context) (s r : Sentence) (p q : Pattern)
    → sentence_image cx.program.sig cx.names s ≡ Some p
    → sentence_image cx.program.sig cx.names r ≡ Some q
    → sentence_image cx.program.sig cx.names (apply s r) ≡ Some (app p q)
applied_image cx s r p q one other =
    ap (λ (o : Option Pattern). both app o (sentence_image cx.program.sig cx.names r)) one
    ∙ ap (both app (Some p)) other

-- a function and an argument
implies_applied : (cx : Context) (s r u v : Sentence) (one other made : Theorem)
    → Implies cx s r one → Implies cx u v other
    → IsApplied one.conclusion other.conclusion made.conclusion
    → StaysWithin [] (one ∷ other ∷ []) made → Implies cx (apply s u) (apply r v) made
implies_applied cx s r u v one other made a b says stays = record {
  from = app a.from b.from;
  is_from = applied_image cx s u a.from b.from a.is_from b.is_from;
  to = app a.to b.to;
  is_to = applied_image cx r v a.to b.to a.is_to b.is_to;
  says = says a.from a.to b.from b.to a.says b.says;
  stays = λ scope has. stays scope tt (a.stays scope has, (b.stays scope has, tt));
}

-- what has the same image
implies_same : (cx : Context) (s r u v : Sentence) (t : Theorem)
    → sentence_image cx.program.sig cx.names s ≡ sentence_image cx.program.sig cx.names u
    → sentence_image cx.program.sig cx.names r ≡ sentence_image cx.program.sig cx.names v
    → Implies cx s r t → Implies cx u v t
implies_same cx s r u v t one other is = record {
  from = is.from;
  is_from = sym one ∙ is.is_from;
  to = is.to;
  is_to = sym other ∙ is.is_to;
  says = is.says;
  stays = is.stays;
}

-- ---- one name

named_image : (cx : Context) (s : Sentence) (n : Name) (d : Pattern)
    → sentence_image cx.program.sig cx.names s ≡ Some d
    → sentence_image cx.program.sig cx.names (named_part s n)
    ≡ Some (with_name n.first (logic.var n.variable) d)
named_image cx s n d is = go n.first
  where
    go : (first : Bool)
        → sentence_image cx.program.sig cx.names (if first
        then and (term (variable n.variable)) s else and s (term (variable n.variable)))
        ≡ Some (with_name first (logic.var n.variable) d)
    go true = ap (both logic.and (Some (logic.var n.variable))) is
    go false = ap (λ (o : Option Pattern). both logic.and o (Some (logic.var n.variable))) is

from_read : (c p q r s : Pattern) → c ≡ imp p q → c ≡ imp r s → r ≡ p
from_read c p q r s one other = same r s p q (sym other ∙ one)
  where
    same : (r s p q : Pattern) → imp r s ≡ imp p q → r ≡ p
    same r s p q h = cc

to_read : (c p q r s : Pattern) → c ≡ imp p q → c ≡ imp r s → s ≡ q
to_read c p q r s one other = same r s p q (sym other ∙ one)
  where
    same : (r s p q : Pattern) → imp r s ≡ imp p q → s ≡ q
    same r s p q h = cc

or_this : (x : ℕ) (n : Name) (q : RulePattern) → n.variable ≡ x
    → or_name x (n ∷ []) q ≡ variable n.variable
or_this x n q is =
    ap (λ (b : Bool). if (b || false) then variable x else q) (eq-eqb n.variable x is)
    ∙ ap variable (sym is)

or_other : (x : ℕ) (n : Name) (q : RulePattern) → n.variable ≢ x → or_name x (n ∷ []) q ≡ q
or_other x n q other = go (n.variable == x) refl
  where
    go : (b : Bool) → (n.variable == x) ≡ b → (if (b || false) then variable x else q) ≡ q
    go true is = absurd (other (eqb-true n.variable x is))
    go false is = refl

-- the name is x
pub name_implied : (cx : Context) (s : Sentence) (q : RulePattern) (n : Name) (x : ℕ)
    (part t : Theorem) (d e v : Pattern) → n.variable ≡ x → part.conclusion ≡ imp d e
    → v ≡ logic.var n.variable → t.conclusion ≡ imp (with_name n.first v d) v
    → StaysWithin (v ∷ d ∷ []) [] t → Implies cx s (term q) part
    → Implies cx (named_part s n) (term (or_name x (n ∷ []) q)) t
name_implied cx s q n x part t d e v same read is says stays implies =
    let this : d ≡ implies.from =
    from_read part.conclusion implies.from implies.to d e implies.says read in
    record {
      from = with_name n.first (logic.var n.variable) d;
      is_from =
          named_image cx s n d (implies.is_from ∙ ap (λ (p : Pattern). Some p) (sym this));
      to = logic.var n.variable;
      is_to = ap (image_of cx.program.sig cx.names) (or_this x n q same);
      says =
          says ∙ ap (λ (p : Pattern). imp (with_name n.first p d) p) is;
      stays = λ scope has. stays scope (
        subst (λ (p : Pattern). IsOver scope p) (sym is) (has.objects n.variable),
        (
          has.images s d (implies.is_from ∙ ap (λ (p : Pattern). Some p) (sym this)),
          tt,
        ),
      ) tt;
    }

-- it is another one
pub part_implied : (cx : Context) (s : Sentence) (q : RulePattern) (n : Name) (x : ℕ)
    (part rule t : Theorem) (d e v : Pattern) → n.variable ≢ x → part.conclusion ≡ imp d e
    → v ≡ logic.var n.variable → rule.conclusion ≡ imp (with_name n.first v d) d
    → StaysWithin (v ∷ d ∷ []) [] rule → IsChain rule.conclusion part.conclusion t.conclusion
    → StaysWithin [] (rule ∷ part ∷ []) t → Implies cx s (term q) part
    → Implies cx (named_part s n) (term (or_name x (n ∷ []) q)) t
part_implied cx s q n x part rule t d e v other read is says kept chained stays implies =
    let this : d ≡ implies.from =
    from_read part.conclusion implies.from implies.to d e implies.says read in
    record {
      from = with_name n.first (logic.var n.variable) d;
      is_from =
          named_image cx s n d (implies.is_from ∙ ap (λ (p : Pattern). Some p) (sym this));
      to = implies.to;
      is_to = ap (image_of cx.program.sig cx.names) (or_other x n q other) ∙ implies.is_to;
      says =
          chained (with_name n.first v d) d implies.to says
          (implies.says ∙ ap (λ (p : Pattern). imp p implies.to) (sym this))
          ∙ ap (λ (p : Pattern). imp (with_name n.first p d) implies.to) is;
      stays = λ scope has. stays scope tt (
        kept scope (
          subst (λ (p : Pattern). IsOver scope p) (sym is) (has.objects n.variable),
          (
            has.images s d (implies.is_from ∙ ap (λ (p : Pattern). Some p) (sym this)),
            tt,
          ),
        ) tt,
        (implies.stays scope has, tt),
      );
    }

-- ---- the names of the whole, one after another

or_more : (x : ℕ) (n : Name) (names : List Name) (q : RulePattern)
    → or_name x (n ∷ names) q ≡ or_name x names (or_name x (n ∷ []) q)
or_more x n names q = go (n.variable == x) (is_named x names)
  where
    go : (a b : Bool) → (if (a || b) then variable x else q)
        ≡ (if b then variable x else if (a || false) then variable x else q)
    go true true = refl
    go true false = refl
    go false true = refl
    go false false = refl

-- With the names from number i on, the present theorem says of these what is to be said of s and q
-- with all names.
pub record IsWholeFrom (cx : Context) (names : List PartName) (x i : ℕ) (s : Sentence)
    (q : RulePattern) (t : Theorem) : Type 0 where
  pub side : Sentence
  pub target : RulePattern
  pub implies : Implies cx side (term target) t
  pub left : named_parts side (of_whole (part_names (drop i names)))
      ≡ named_parts s (of_whole (part_names names))
  pub right : or_name x (of_whole (part_names (drop i names))) target
      ≡ or_name x (of_whole (part_names names)) q

pub whole_first : (cx : Context) (names : List PartName) (x : ℕ) (s : Sentence) (q : RulePattern)
    (t : Theorem) → Implies cx s (term q) t → IsWholeFrom cx names x 0 s q t
whole_first cx names x s q t implies = record {
  side = s;
  target = q;
  implies = implies;
  left = refl;
  right = refl;
}

pub whole_next : (cx : Context) (names : List PartName) (x i : ℕ) (d : PartName) (s : Sentence)
    (q : RulePattern) (t new : Theorem) → i < length names → (get_or names i d).way.now ≡ []
    → ((u : Sentence) (r : RulePattern) → Implies cx u (term r) t
    → Implies cx (named_part u (part_name (get_or names i d)))
    (term (or_name x (part_name (get_or names i d) ∷ []) r)) new)
    → IsWholeFrom cx names x i s q t → IsWholeFrom cx names x (i + 1) s q new
whole_next cx names x i d s q t new low here says before =
    let n : Name = part_name (get_or names i d) in
    let split : of_whole (part_names (drop i names))
    ≡ part_name (get_or names i d) ∷ of_whole (part_names (drop (i + 1) names)) =
    named_from names i d low here in
    record {
      side = named_part before.side (part_name (get_or names i d));
      target = or_name x (part_name (get_or names i d) ∷ []) before.target;
      implies = says before.side before.target before.implies;
      left = ap (named_parts before.side) (sym split) ∙ before.left;
      right =
          sym (or_more x (part_name (get_or names i d)) (of_whole (part_names (drop (i + 1) names)))
          before.target)
          ∙ ap (λ (ns : List Name). or_name x ns before.target) (sym split) ∙ before.right;
    }

pub whole_same : (cx : Context) (names : List PartName) (x i : ℕ) (d : PartName) (s : Sentence)
    (q : RulePattern) (t : Theorem) → i < length names
    → ((get_or names i d).way.now ≡ [] → ⊥)
    → IsWholeFrom cx names x i s q t → IsWholeFrom cx names x (i + 1) s q t
whole_same cx names x i d s q t low inside before =
    let same : of_whole (part_names (drop i names)) ≡ of_whole (part_names (drop (i + 1) names)) =
    unnamed_from names i d low inside in
    record {
      side = before.side;
      target = before.target;
      implies = before.implies;
      left = ap (named_parts before.side) (sym same) ∙ before.left;
      right =
          ap (λ (ns : List Name). or_name x ns before.target) (sym same) ∙ before.right;
    }

pub whole_last : (cx : Context) (names : List PartName) (x i : ℕ) (s : Sentence) (q : RulePattern)
    (t : Theorem) → i ≡ length names → IsWholeFrom cx names x i s q t
    → Implies cx (named_parts s (of_whole (part_names names)))
    (term (or_name x (of_whole (part_names names)) q)) t
whole_last cx names x i s q t all last =
    let none : of_whole (part_names (drop i names)) ≡ [] =
    ap (λ (ns : List PartName). of_whole (part_names ns)) (none_left names i all) in
    implies_same cx last.side (term last.target) (named_parts s (of_whole (part_names names)))
    (term (or_name x (of_whole (part_names names)) q)) t
    (ap (sentence_image cx.program.sig cx.names)
    (ap (named_parts last.side) (sym none) ∙ last.left))
    (ap (image_of cx.program.sig cx.names)
    (ap (λ (ns : List Name). or_name x ns last.target) (sym none) ∙ last.right)) last.implies

-- ---- a pattern

pub whole_implies : (cx : Context) (names : List Name) (x : ℕ) (p : RulePattern) (t : Theorem)
    → Implies cx (named_parts (part_sentence names p) (of_whole names))
    (term (or_name x (of_whole names) (part_chosen x names p))) t
    → Implies cx (left_sentence names p) (term (chosen x names p)) t
whole_implies cx names x p t is =
    implies_same cx (named_parts (part_sentence names p) (of_whole names))
    (term (or_name x (of_whole names) (part_chosen x names p))) (left_sentence names p)
    (term (chosen x names p)) t
    (ap (sentence_image cx.program.sig cx.names) (sym (left_parts names p)))
    (ap (image_of cx.program.sig cx.names) (sym (chosen_parts x names p))) is

-- without names
pub plain_implies : (cx : Context) (names : List PartName) (x : ℕ) (p : RulePattern)
    (image : Pattern) (t : Theorem) → names ≡ []
    → image_of cx.program.sig cx.names p ≡ Some image → t.conclusion ≡ imp image image
    → StaysWithin (image ∷ []) [] t
    → Implies cx (left_sentence (part_names names) p) (term (chosen x (part_names names) p)) t
plain_implies cx names x p image t none is says stays =
    subst (λ (ns : List PartName).
    Implies cx (left_sentence (part_names ns) p) (term (chosen x (part_names ns) p)) t) (sym none)
    (implies_itself cx (left_sentence [] p) (term (chosen x [] p)) image t
    (plain_left cx.program.sig cx.names p ∙ is)
    (ap (image_of cx.program.sig cx.names)
    (chosen_none x [] p (λ i d low. absurd (omega (arith, low)))) ∙ is)
    says stays)

-- an injection
pub injection_implies : (cx : Context) (names : List Name) (x a b : ℕ) (p : RulePattern)
    (head : Pattern) (same one made : Theorem)
    → sentence_image cx.program.sig cx.names (inject a b) ≡ Some head
    → same.conclusion ≡ imp head head → StaysWithin (head ∷ []) [] same
    → Implies cx (left_sentence (of_child 0 names) p) (term (chosen x (of_child 0 names) p)) one
    → IsApplied same.conclusion one.conclusion made.conclusion
    → StaysWithin [] (same ∷ one ∷ []) made
    → Implies cx (part_sentence names (injection a b p))
    (term (part_chosen x names (injection a b p))) made
injection_implies cx names x a b p head same one made is says kept below applied stays =
    implies_same cx (apply (inject a b) (left_sentence (of_child 0 names) p))
    (apply (inject a b) (term (chosen x (of_child 0 names) p)))
    (part_sentence names (injection a b p)) (term (part_chosen x names (injection a b p))) made
    refl refl
    (implies_applied cx (inject a b) (inject a b) (left_sentence (of_child 0 names) p)
    (term (chosen x (of_child 0 names) p)) same one made
    (implies_itself cx (inject a b) (inject a b) head same is is says kept) below applied stays)

-- ---- arguments, one after another

-- With the arguments from number i on, the present theorem says what is to be said of all.
pub record AreAppliedFrom (cx : Context) (names : List Name) (x f i : ℕ) (args : List RulePat)
    (t : Theorem) : Type 0 where
  pub side : Sentence
  pub target : Sentence
  pub implies : Implies cx side target t
  pub left : applied_sides names i side (plain_patterns (drop i args))
      ≡ applied_sides names 0 (symbol f) (plain_patterns args)
  pub right : applied cx.program.sig cx.names
      (sentence_image cx.program.sig cx.names target)
      (all_chosen x names i (plain_patterns (drop i args)))
      ≡ image_of cx.program.sig cx.names
      (application f (all_chosen x names 0 (plain_patterns args)))

pub applied_first : (cx : Context) (names : List Name) (x f : ℕ) (args : List RulePat)
    (head : Pattern) (t : Theorem) → symbol_image cx.program.sig cx.names f ≡ Some head
    → t.conclusion ≡ imp head head → StaysWithin (head ∷ []) [] t
    → AreAppliedFrom cx names x f 0 args t
applied_first cx names x f args head t is says stays = record {
  side = symbol f;
  target = symbol f;
  implies = implies_itself cx (symbol f) (symbol f) head t is is says stays;
  left = refl;
  right = refl;
}

pub applied_next : (cx : Context) (names : List Name) (x f i : ℕ) (args : List RulePat)
    (a : RulePat) (t one new : Theorem) → i < length args → a ≡ get_or args i a
    → Implies cx (left_sentence (of_child i names) (plain_pattern a))
    (term (chosen x (of_child i names) (plain_pattern a))) one
    → IsApplied t.conclusion one.conclusion new.conclusion → StaysWithin [] (t ∷ one ∷ []) new
    → AreAppliedFrom cx names x f i args t → AreAppliedFrom cx names x f (i + 1) args new
applied_next cx names x f i args a t one new low at argument applies stays before =
    let split : drop i args ≡ a ∷ drop (i + 1) args =
    drop_more args i a low
    ∙ ap (λ (b : RulePat). b ∷ drop (i + 1) args) (sym at) in
    record {
      side = apply before.side (left_sentence (of_child i names) (plain_pattern a));
      target = apply before.target (term (chosen x (of_child i names) (plain_pattern a)));
      implies =
          implies_applied cx before.side before.target
          (left_sentence (of_child i names) (plain_pattern a))
          (term (chosen x (of_child i names) (plain_pattern a))) t one new before.implies argument
          applies stays;
      left =
          ap (λ (ps : List RulePat). applied_sides names i before.side (plain_patterns ps))
          (sym split) ∙ before.left;
      right =
          ap (λ (ps : List RulePat). applied cx.program.sig cx.names
          (sentence_image cx.program.sig cx.names before.target)
          (all_chosen x names i (plain_patterns ps))) (sym split) ∙ before.right;
    }

-- a variable, a value or a call
pub leaf_implies : (cx : Context) (names : List Name) (x : ℕ) (p : RulePat) (image : Pattern)
    (t : Theorem) → image_of cx.program.sig cx.names (plain_pattern p) ≡ Some image
    → ((y : ℕ) × (p ≡ form.Var y)) ⊎ (((s : SortId) × (v : Value) × (p ≡ form.Value s v))
    ⊎ ((f : SymId) × (ss : Vec SortId) × (ps : Vec RulePat) × (p ≡ form.Call f ss ps)))
    → t.conclusion ≡ imp image image → StaysWithin (image ∷ []) [] t
    → Implies cx (part_sentence names (plain_pattern p))
    (term (part_chosen x names (plain_pattern p))) t
leaf_implies cx names x p image t at leaf says stays = go (plain_leaf leaf)
  where
    -- the plain pattern
    IsLeaf : RulePattern → Type 0
    IsLeaf q = (part_sentence names q ≡ term q) × (part_chosen x names q ≡ q)

    plain_leaf : ((y : ℕ) × (p ≡ form.Var y)) ⊎ (((s : SortId) × (v : Value) × (p ≡ form.Value s v))
        ⊎ ((f : SymId) × (ss : Vec SortId) × (ps : Vec RulePat)
        × (p ≡ form.Call f ss ps))) → IsLeaf (plain_pattern p)
    plain_leaf (inl (y, is)) = subst IsLeaf (sym (ap plain_pattern is ∙ plain-Var y)) (refl, refl)
    plain_leaf (inr (inl (s, v, is))) =
        subst IsLeaf (sym (ap plain_pattern is ∙ plain-Value s v)) (refl, refl)
    plain_leaf (inr (inr (f, ss, ps, is))) =
        subst IsLeaf (sym (ap plain_pattern is ∙ plain-Call f ss ps)) (refl, refl)

    go : IsLeaf (plain_pattern p) → Implies cx (part_sentence names (plain_pattern p))
        (term (part_chosen x names (plain_pattern p))) t
    go both =
        implies_itself cx (part_sentence names (plain_pattern p))
        (term (part_chosen x names (plain_pattern p))) image t
        (ap (sentence_image cx.program.sig cx.names) both.0 ∙ at)
        (ap (image_of cx.program.sig cx.names) both.1 ∙ at) says stays
