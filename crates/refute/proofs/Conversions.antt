-- Between functional patterns, that they are not equal and that they have nothing in common say the
-- same: what is known of the theorems at hand.
use Rattle.std.proofs.Common.{◌≡◌, ◌≤◌, ℕ, List, Some, length, refl, sym, ◌∙◌, subst}
use Rattle.ml_pat.specs.Patterns.{Pattern, imp, not, and, equal, fun, bot, member, var}
use Rattle.ml_pat.specs.Judgements.{substituted}
use Rattle.ml_kernel.specs.Theorems.{Theorem}
use Rattle.term_core.specs.Patterns.{Pattern as RulePattern}
use Rattle.rule_core.specs.declared.rules.Program.{Program}
use Rattle.ml_image.specs.Sentences.{term}
use Rattle.prove_term.specs.Contexts.{Context, HasGrown, StaysIn}
use Rattle.prove_term.proofs.ContextLaws.{image_grown}
use Rattle.prove_open.specs.Givens.{IsCovered}
use Rattle.prove_open.specs.Under.{SaysUnder, element}
use Rattle.prove_open.specs.declared.givens.Given.{Given}
use Rattle.prove_open.specs.declared.differences.Difference.{Difference}
use Rattle.prove_open.specs.declared.differences.Difference.TheVariants.{Unequal, Disjoint}
use Rattle.refute.specs.Refuting.{Denies}
use Rattle.refute.proofs.FreshImages.{image_keeps, mark_replaced}
use Rattle.refute.proofs.Growing.{program_grown}
use Rattle.refute.proofs.Shapes.{image_in, one_image, IsUnequal, unequal_shape, unequal_said}
use Rattle.refute.proofs.Shapes.{IsDisjoint, disjoint_shape, disjoint_said, IsElement}
use Rattle.refute.proofs.Shapes.{element_shape}

-- ---- theorems about elements

pub element_made : (old new : Context) (h : Pattern) (sorts : List ℕ) (g : Given) (p : RulePattern)
    (sort : ℕ) (c : Pattern) → HasGrown old new → IsCovered old.program.sig sorts g p sort
    → ((sort : ℕ) → IsCovered new.program.sig sorts g p sort
    → SaysUnder new h (element p sort) c)
    → IsElement new h p sort c
element_made old new h sorts g p sort c grown covered says =
    element_shape new h p sort c
    (says sort
    (program_grown old new (λ (a : Program). IsCovered a.sig sorts g p sort) grown covered))

-- the requirement to take such a theorem apart
abbrev pub IsTaken : Pattern → Pattern → Type 0
IsTaken h c = (q : Pattern) × (s : ℕ) × (c ≡ imp h (fun q s))

pub element_taken : (cx : Context) (h : Pattern) (p : RulePattern) (sort : ℕ) (c : Pattern)
    → IsElement cx h p sort c → IsTaken h c
element_taken cx h p sort c is = (is.image, is.number, is.says)

same_element : (h p q : Pattern) (m n : ℕ) → imp h (fun p m) ≡ imp h (fun q n) → p ≡ q
same_element h p q m n e = cc

pub image_later : (old new : Context) (p : RulePattern) (l : Pattern) → HasGrown old new
    → image_in old p ≡ Some l → image_in new p ≡ Some l
image_later old new p l grown is = image_grown old new (term p) l grown is

-- the pattern of the theorem is the image
pub element_image : (old new : Context) (h : Pattern) (p : RulePattern) (sort : ℕ) (c l r : Pattern)
    (n : ℕ) → HasGrown old new → image_in old p ≡ Some l → IsElement new h p sort c
    → c ≡ imp h (fun r n) → r ≡ l
element_image old new h p sort c l r n grown is made says =
    same_element h r made.image n made.number (sym says ∙ made.says)
    ∙ one_image (image_in new p) made.image l made.is_image
    (image_later old new p l grown is)

-- ---- from one form to the other

pub unequal_parts : (cx : Context) (h : Pattern) (p q : RulePattern) (d : Difference) (t : Theorem)
    → d ≡ Unequal t → Denies cx h p q d → IsUnequal cx h p q t.conclusion × StaysIn cx t
unequal_parts cx h p q d t is denies =
    let moved : Denies cx h p q (Unequal t) =
    subst (λ (e : Difference). Denies cx h p q e) is denies in
    (unequal_shape cx h p q t.conclusion moved.says, moved.stays)

pub disjoint_parts : (cx : Context) (h : Pattern) (p q : RulePattern) (d : Difference) (t : Theorem)
    → d ≡ Disjoint t → Denies cx h p q d → IsDisjoint cx h p q t.conclusion × StaysIn cx t
disjoint_parts cx h p q d t is denies =
    let moved : Denies cx h p q (Disjoint t) =
    subst (λ (e : Difference). Denies cx h p q e) is denies in
    (disjoint_shape cx h p q t.conclusion moved.says, moved.stays)

pub denies_disjoint : (old new : Context) (h : Pattern) (p q : RulePattern) (l r : Pattern)
    (t : Theorem) → HasGrown old new → image_in old p ≡ Some l → image_in old q ≡ Some r
    → t.conclusion ≡ imp h (imp (and l r) bot) → StaysIn new t → Denies new h p q (Disjoint t)
denies_disjoint old new h p q l r t grown one other says stays = record {
  says =
      disjoint_said new h p q l r t.conclusion (image_later old new p l grown one)
      (image_later old new q r grown other) says;
  stays = stays;
}

pub denies_unequal : (old new : Context) (h : Pattern) (p q : RulePattern) (l r : Pattern)
    (t : Theorem) → HasGrown old new → image_in old p ≡ Some l → image_in old q ≡ Some r
    → t.conclusion ≡ imp h (not (equal l r)) → StaysIn new t → Denies new h p q (Unequal t)
denies_unequal old new h p q l r t grown one other says stays = record {
  says =
      unequal_said new h p q l r t.conclusion (image_later old new p l grown one)
      (image_later old new q r grown other) says;
  stays = stays;
}

-- the new variable can be replaced in the image of a pattern, and changes nothing there
pub covered_keeps : (cx : Context) (sorts : List ℕ) (g : Given) (p : RulePattern) (sort y : ℕ)
    (l u : Pattern) → IsCovered cx.program.sig sorts g p sort → length sorts ≤ y
    → image_in cx p ≡ Some l → substituted l y u ≡ Some l
covered_keeps cx sorts g p sort y l u covered high is =
    image_keeps cx.program.sig cx.names sorts y p sort l u covered.sorted covered.no_call high is

pub member_marked : (p u : Pattern) (y : ℕ) → substituted p y u ≡ Some p
    → substituted (member p (var y)) y u ≡ Some (member p u)
member_marked p u y keeps = rw (keeps, mark_replaced y u) refl

pub differs_marked : (p u : Pattern) (y : ℕ) → substituted p y u ≡ Some p
    → substituted (not (equal p (var y))) y u ≡ Some (not (equal p u))
differs_marked p u y keeps = rw (keeps, mark_replaced y u) refl

pub equals_marked : (q u : Pattern) (y : ℕ) → substituted q y u ≡ Some q
    → substituted (equal (var y) q) y u ≡ Some (equal u q)
equals_marked q u y keeps = rw (keeps, mark_replaced y u) refl

-- ---- the parts of a refutation, by what was read from theorems

first_side : (p q r s : Pattern) → imp p q ≡ imp r s → p ≡ r
first_side p q r s h = cc

second_side : (p q r s : Pattern) → imp p q ≡ imp r s → q ≡ s
second_side p q r s h = cc

second_part : (p q r s : Pattern) → and p q ≡ and r s → q ≡ s
second_part p q r s h = cc

-- the conjunction in a theorem that two patterns have nothing in common
pub common_read : (cx : Context) (h : Pattern) (p q : RulePattern) (c k m n w : Pattern)
    (is : IsDisjoint cx h p q c) → c ≡ imp k m → m ≡ imp n w → n ≡ and is.left is.right
common_read cx h p q c k m n w is outer inner =
    first_side n w (and is.left is.right) bot
    (sym inner ∙ second_side k m h (imp (and is.left is.right) bot) (sym outer ∙ is.says))

pub other_read : (cx : Context) (h : Pattern) (p q : RulePattern) (c k m n w x r : Pattern)
    (is : IsDisjoint cx h p q c) → c ≡ imp k m → m ≡ imp n w → n ≡ and x r → r ≡ is.right
other_read cx h p q c k m n w x r is outer inner both =
    second_part x r is.left is.right (sym both ∙ common_read cx h p q c k m n w is outer inner)
