-- What each variable equals, one after another.
use Rattle.std.proofs.Common.{◌≡◌, ◌+◌, ℕ, List, [], ◌∷◌, drop, length, Option, Some}
use Rattle.std.proofs.Common.{slice_get, refl, sym, ◌∙◌, ap, subst}
use Rattle.std.proofs.lemmas.List.{drop_more}
use Rattle.std.proofs.lemmas.Option.{slice_get_within, get_or_from_slice_get}
use Rattle.ml_pat.specs.Patterns.{Pattern}
use Rattle.ml_pat.specs.Patterns as logic
use Rattle.ml_kernel.specs.Theorems.{Theorem}
use Rattle.ml_derived.specs.Scopes.{StaysWithin}
use Rattle.term_core.specs.Terms.{Tree}
use Rattle.term_core.specs.Patterns.{binding}
use Rattle.ml_image.specs.Sentences.{Sentence, and, implies, top, sentence_image}
use Rattle.prove_term.specs.Contexts.{Context, HasGrown, StaysIn}
use Rattle.prove_term.proofs.ContextLaws.{image_grown, stays_grown}
use Rattle.prove_open.specs.Under.{SaysUnder}
use Rattle.refute.specs.Bindings.{SaysInCommon, IsInverting, AreJoinable, IsJoined}
use Rattle.refute.specs.Bindings.{equals_bound}
use Rattle.refute.specs.Refutations.{SaysSentence, all_bound, is_bound_to}
use Rattle.refute.proofs.Shapes.{AreImplied, implied_shape, one_image}

pub common_grown : (old new : Context) (h : Pattern) (w s : Sentence) (r : Pattern)
    → HasGrown old new → SaysInCommon old h w s r → SaysInCommon new h w s r
common_grown old new h w s r grown is = record {
  common = is.common;
  is_common = image_grown old new w is.common grown is.is_common;
  image = is.image;
  is_image = image_grown old new s is.image grown is.is_image;
  says = is.says;
}

pub inverting_grown : (old new : Context) (h : Pattern) (w s : Sentence) (r : Theorem)
    → HasGrown old new → IsInverting old h w s r → IsInverting new h w s r
inverting_grown old new h w s r grown is = record {
  says = common_grown old new h w s r.conclusion grown is.says;
  stays = stays_grown old new r grown is.stays;
}

-- the equation and what was there, over one common part
record AreOverOne (cx : Context) (h : Pattern) (w e s : Sentence) (one other : Pattern) : Type 0
  where
    common : Pattern
    is_common : sentence_image cx.program.sig cx.names w ≡ Some common
    image : Pattern
    is_image : sentence_image cx.program.sig cx.names e ≡ Some image
    sofar : Pattern
    is_sofar : sentence_image cx.program.sig cx.names s ≡ Some sofar
    equation : one ≡ logic.imp h (logic.imp common image)
    present : other ≡ logic.imp (logic.and h common) sofar

over_one : (cx : Context) (h : Pattern) (w e s : Sentence) (one other : Pattern)
    → SaysUnder cx h (implies w e) one → SaysInCommon cx h w s other
    → AreOverOne cx h w e s one other
over_one cx h w e s one other says there =
    let is : AreImplied cx h w e one = implied_shape cx h w e one says in
    let same : there.common ≡ is.from =
    one_image (sentence_image cx.program.sig cx.names w) there.common is.from there.is_common
    is.is_from in
    record {
      common = is.from;
      is_common = is.is_from;
      image = is.to;
      is_image = is.is_to;
      sofar = there.image;
      is_sofar = there.is_image;
      equation = is.says;
      present =
          there.says
          ∙ ap (λ (k : Pattern). logic.imp (logic.and h k) there.image) same;
    }

pub joinable : (cx : Context) (h : Pattern) (w e s : Sentence) (one other : Pattern)
    → SaysUnder cx h (implies w e) one → SaysInCommon cx h w s other → AreJoinable one other
joinable cx h w e s one other says there =
    let both : AreOverOne cx h w e s one other = over_one cx h w e s one other says there in
    (h, both.common, both.image, both.sofar, both.equation, both.present)

pub joined_says : (cx : Context) (h : Pattern) (w e s : Sentence) (one other made : Pattern)
    → SaysUnder cx h (implies w e) one → SaysInCommon cx h w s other → IsJoined one other made
    → SaysInCommon cx h w (and e s) made
joined_says cx h w e s one other made says there joined =
    let both : AreOverOne cx h w e s one other = over_one cx h w e s one other says there in
    record {
      common = both.common;
      is_common = both.is_common;
      image = logic.and both.image both.sofar;
      is_image = rw (both.is_image, both.is_sofar) refl;
      says = joined h both.common both.image both.sofar both.equation both.present;
    }

-- ---- the variables from a place on

drop_from : (xs : List ℕ) (k x : ℕ) → slice_get xs k ≡ Some x
    → drop k xs ≡ x ∷ drop (k + 1) xs
drop_from xs k x at =
    drop_more xs k x (slice_get_within xs k x at)
    ∙ ap (λ (z : ℕ). z ∷ drop (k + 1) xs) (get_or_from_slice_get xs k x x at)

bound_first : (theta : List (Option Tree)) (xs : List ℕ) (k x : ℕ) (u : Tree)
    → slice_get xs k ≡ Some x → binding theta x ≡ Some u
    → all_bound theta (drop k xs)
    ≡ and (equals_bound x u) (all_bound theta (drop (k + 1) xs))
bound_first theta xs k x u at bound =
    ap (all_bound theta) (drop_from xs k x at)
    ∙ ap (λ (o : Option Tree). and (is_bound_to x o) (all_bound theta (drop (k + 1) xs))) bound

pub all_dropped : (theta : List (Option Tree)) (xs : List ℕ)
    → all_bound theta (drop (length xs) xs) ≡ top
all_dropped theta xs = ap (all_bound theta) (nothing_left xs)
  where
    nothing_left : (xs : List ℕ) → drop (length xs) xs ≡ []
    nothing_left [] = refl
    nothing_left (x ∷ xs) = nothing_left xs

pub next_inverting : (cx : Context) (h : Pattern) (w : Sentence) (theta : List (Option Tree))
    (xs : List ℕ) (k j x : ℕ) (u : Tree) (one other made : Theorem) → j ≡ k + 1
    → slice_get xs k ≡ Some x → binding theta x ≡ Some u
    → SaysUnder cx h (implies w (equals_bound x u)) one.conclusion → StaysIn cx one
    → IsInverting cx h w (all_bound theta (drop j xs)) other
    → IsJoined one.conclusion other.conclusion made.conclusion
    → StaysWithin [] (one ∷ other ∷ []) made
    → IsInverting cx h w (all_bound theta (drop k xs)) made
next_inverting cx h w theta xs k j x u one other made next at bound says kept there joined stays =
    let before : SaysInCommon cx h w (all_bound theta (drop (k + 1) xs)) other.conclusion =
    subst (λ (n : ℕ). SaysInCommon cx h w (all_bound theta (drop n xs)) other.conclusion) next
    there.says in
    record {
      says =
          subst (λ (s : Sentence). SaysInCommon cx h w s made.conclusion)
          (sym (bound_first theta xs k x u at bound))
          (joined_says cx h w (equals_bound x u) (all_bound theta (drop (k + 1) xs))
          one.conclusion other.conclusion made.conclusion says before joined);
      stays = λ s has. stays s tt (kept s has, (there.stays s has, tt));
    }

-- ---- with the hypothesis

pub says_inverted : (cx : Context) (g w s : Sentence) (h r : Pattern)
    → sentence_image cx.program.sig cx.names g ≡ Some h
    → SaysInCommon cx h w s r → SaysSentence cx (implies (and g w) s) r
says_inverted cx g w s h r is there =
    rw (is, there.is_common, there.is_image) (ap (λ (k : Pattern). Some k) (sym there.says))

pub says_under : (cx : Context) (g s : Sentence) (h r : Pattern)
    → sentence_image cx.program.sig cx.names g ≡ Some h → SaysUnder cx h s r
    → SaysSentence cx (implies g s) r
says_under cx g s h r is says =
    rw (is, says.is_image) (ap (λ (k : Pattern). Some k) (sym says.says))
