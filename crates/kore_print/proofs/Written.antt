-- Texts that are written part by part.
use Rattle.std.proofs.Common.{◌≡◌, ◌<◌, ◌≤◌, ◌+◌, ℕ, zero, suc, false, List, [], ◌∷◌, ◌++◌, length}
use Rattle.std.proofs.Common.{map, drop, get_or, refl, ap, sym, ◌∙◌, arith, append_assoc, add-one}
use Rattle.std.proofs.Common.{drop-cons, Result, Ok, Err, is_ok, if◌then◌else◌}
use Rattle.std.proofs.lemmas.List.{drop_all, drop-map}
use Rattle.std.specs.Prelude.{OnOk}
use Rattle.kore_text.specs.Trees.{SortTree, sort_trees, PatternTree, pattern_trees}
use Rattle.kore_text.specs.Grammar.{Requirement, Spelling, listed, more_listed, spell_sort}
use Rattle.kore_text.specs.Grammar.{spell_sorts, spell_pattern, spell_patterns}
use Rattle.kore_print.specs.CanonicalText.{text_of}
use Rattle.kore_print.specs.Writing.{Writes, comma_after, listed_after}

-- a part was added, and then the rest, before what follows
pub part_first : (part old mid new rest last : List ℕ) → mid ≡ old ++ part
    → new ++ last ≡ mid ++ rest → new ++ last ≡ old ++ (part ++ rest)
part_first part old mid new rest last h g =
    g ∙ ap (λ (t : List ℕ). t ++ rest) h ∙ append_assoc old part rest

-- the last part was added
pub part_last : (part old new last : List ℕ) → new ≡ old ++ part
    → new ++ last ≡ old ++ (part ++ last)
part_last part old new last h = ap (λ (t : List ℕ). t ++ last) h ∙ append_assoc old part last

-- what follows from a successful result
pub on_ok : {E : Type 0} (r : Result (Unit {0}) E) (P Q : Type 0) → OnOk r P → (P → Q) → OnOk r Q
on_ok (Ok u) P Q h go = go h
on_ok (Err e) P Q h go = tt

pub added : {E : Type 0} (r : Result (Unit {0}) E) (part old new : List ℕ)
    → new ≡ (if is_ok r then old ++ part else old) → OnOk r (new ≡ old ++ part)
added (Ok u) part old new h = h
added (Err e) part old new h = tt

-- lists

pub item_here : {X T : Type 0} (f : X → T) (xs : List X) (i : ℕ) (x : X) → i < length xs
    → x ≡ get_or xs i x → drop i (map f xs) ≡ f x ∷ drop (i + 1) (map f xs)
item_here {X} {T} f xs i x lt e =
    rw add-one (drop-map f i xs ∙ ap (map f) (drop-cons xs i x lt)
    ∙ ap (λ (y : X). f y ∷ map f (drop (suc i) xs)) (sym e)
    ∙ ap (λ (ys : List T). f x ∷ ys) (sym (drop-map f (suc i) xs)))

nothing-more : (fs : List Spelling) (i : ℕ) (close : ℕ) (k : List Requirement) → fs ≡ []
    → text_of (listed_after i fs close k) ≡ close ∷ text_of k
nothing-more fs zero close k h = ap (λ (fs : List Spelling). text_of (listed fs close k)) h
nothing-more fs (suc i) close k h = ap (λ (fs : List Spelling). text_of (more_listed fs close k)) h

item-more : (f : Spelling) (fs : List Spelling) (i : ℕ) (close : ℕ) (k : List Requirement)
    → text_of (listed_after i (f ∷ fs) close k)
    ≡ comma_after i ++ text_of (f (more_listed fs close k))
item-more f fs zero close k = refl
item-more f fs (suc i) close k = refl

after-some : (i : ℕ) (fs : List Spelling) (close : ℕ) (k : List Requirement)
    → text_of (listed_after (i + 1) fs close k) ≡ text_of (more_listed fs close k)
after-some i fs close k =
    let e : i + 1 ≡ suc i = omega arith in ap (λ (n : ℕ). text_of (listed_after n fs close k)) e

-- an item was added after its comma, and what is written and what is left together are as before
pub item_written : {T : Type 0} (spell : T → Spelling) (xs : List T) (x : T) (i close : ℕ)
    (old comma new : List ℕ) → drop i xs ≡ x ∷ drop (i + 1) xs → comma ≡ old ++ comma_after i
    → Writes (spell x) comma new → (k : List Requirement)
    → new ++ text_of (listed_after (i + 1) (map spell (drop (i + 1) xs)) close k)
    ≡ old ++ text_of (listed_after i (map spell (drop i xs)) close k)
item_written {T} spell xs x i close old comma new d c h k =
    let fs : List Spelling = map spell (drop (i + 1) xs) in
    let m : List Requirement = more_listed fs close k in
    ap (λ (t : List ℕ). new ++ t) (after-some i fs close k)
    ∙ h m
    ∙ ap (λ (t : List ℕ). t ++ text_of (spell x m)) c
    ∙ append_assoc old (comma_after i) (text_of (spell x m))
    ∙ ap (λ (t : List ℕ). old ++ t) (sym (item-more (spell x) fs i close k)
    ∙ ap (λ (ys : List T). text_of (listed_after i (map spell ys) close k)) (sym d))

-- the closing mark was added
pub list_closed : {T : Type 0} (spell : T → Spelling) (xs : List T) (i close : ℕ) (old new : List ℕ)
    → length xs ≤ i → new ≡ old ++ (close ∷ []) → (k : List Requirement)
    → new ++ text_of k ≡ old ++ text_of (listed_after i (map spell (drop i xs)) close k)
list_closed {T} spell xs i close old new l h k =
    part_last (close ∷ []) old new (text_of k) h
    ∙ ap (λ (t : List ℕ). old ++ t)
    (sym (nothing-more (map spell (drop i xs)) i close k (ap (map spell) (drop_all i xs l))))

pub spell_sorts_trees : (ss : List SortTree) → map spell_sort ss ≡ spell_sorts (sort_trees ss)
spell_sorts_trees [] = refl
spell_sorts_trees (s ∷ ss) = ap (λ (fs : List Spelling). spell_sort s ∷ fs) (spell_sorts_trees ss)

pub spell_patterns_trees : (ps : List PatternTree)
    → map (spell_pattern false) ps ≡ spell_patterns false (pattern_trees ps)
spell_patterns_trees [] = refl
spell_patterns_trees (p ∷ ps) =
    ap (λ (fs : List Spelling). spell_pattern false p ∷ fs) (spell_patterns_trees ps)
