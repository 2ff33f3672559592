-- What is read at a sort.
use Rattle.std.proofs.Common.{◌≡◌, ℕ, Bool, true, false, List, [], ◌∷◌, map, refl, ap, sym, ◌∙◌}
use Rattle.std.proofs.Common.{subst}
use Rattle.kore_text.specs.TokenStream.{identifier, mark, Stream, end, no_token_at, token}
use Rattle.kore_text.specs.Trees.{SortTree, sort_parameter, sort_applied, SortTrees, no_sorts}
use Rattle.kore_text.specs.Trees.{sort_then, sort_trees, listed_sorts}
use Rattle.kore_text.specs.Grammar.{Requirement, placed, any, provided, listed, spell_sort}
use Rattle.kore_text.specs.Grammar.{spell_sorts}
use Rattle.kore_text.specs.Apart.{Apart}
use Rattle.kore_ast.specs.Streams.{after, byte_of_next, seen, has_mark, is_over, name_of}
use Rattle.kore_ast.specs.Reading.{Has, Reads, spell_list}
use Rattle.kore_ast.proofs.Steps.{any-step, placed-step, given-step, end-step}
use Rattle.kore_ast.proofs.Lists.{Begins, reads-is}

pub spell_sorts-trees : (ss : List SortTree) → spell_sorts (sort_trees ss) ≡ map spell_sort ss
spell_sorts-trees [] = refl
spell_sorts-trees (s ∷ ss) = ap (λ fs. spell_sort s ∷ fs) (spell_sorts-trees ss)

pub sort_trees-listed : (ss : SortTrees) → ss ≡ sort_trees (listed_sorts ss)
sort_trees-listed no_sorts = refl
sort_trees-listed (sort_then s ss) = ap (sort_then s) (sort_trees-listed ss)

pub listed-sort_trees : (ss : List SortTree) → listed_sorts (sort_trees ss) ≡ ss
listed-sort_trees [] = refl
listed-sort_trees (s ∷ ss) = ap (λ xs. s ∷ xs) (listed-sort_trees ss)

pub spell_sorts-listed : (ss : SortTrees) → spell_sorts ss ≡ map spell_sort (listed_sorts ss)
spell_sorts-listed ss = ap spell_sorts (sort_trees-listed ss) ∙ spell_sorts-trees (listed_sorts ss)

-- sorts in braces as the children of a tree
pub sorts-exact : (xs : List SortTree) (s r : Stream) → Reads (spell_list spell_sort 125) xs s r
    → (ss : SortTrees) (k : List Requirement) (e : Stream) → Apart k e
    → Has (listed (spell_sorts ss) 125 k) s e → (ss ≡ sort_trees xs) × Has k r e
sorts-exact xs s r h ss k e a g =
    let x =
    h.exact (listed_sorts ss) k e a
    (subst (λ fs. Has (listed fs 125 k) s e) (spell_sorts-listed ss) g) in
    (sort_trees-listed ss ∙ ap sort_trees x.0, x.1)

-- no opening brace follows
pub apart-seen : (k : List Requirement) (s e : Stream) → Apart k e → Has k s e
    → has_mark 123 (seen s) ≡ false
apart-seen [] s (end x) a h = ap (λ u. has_mark 123 (seen u)) (end-step s (end x) h)
apart-seen [] s (no_token_at x) a h = absurd a
apart-seen [] s (token t p q) a h = absurd a
apart-seen (provided b ∷ ws) s e a h = apart-seen ws s e a (given-step b ws s e h).1
apart-seen (any t ∷ ws) s e a h = ap (has_mark 123) (any-step t ws s e h).0 ∙ a
apart-seen (placed p t ∷ ws) s e a h = ap (has_mark 123) (placed-step p t ws s e h).0 ∙ a

pub contrary : (b : Bool) → b ≡ true → b ≡ false → ⊥
contrary b h e = let z : true ≡ false = sym h ∙ e in let y : ⊥ = cc in y

pub parameter : (s : Stream) → has_mark 123 (seen (after s)) ≡ false
    → Reads spell_sort (sort_parameter (byte_of_next s) (name_of (seen s))) s (after s)
parameter s n = record { exact = go } where
  go : (t : SortTree) (k : List Requirement) (e : Stream) → Apart k e → Has (spell_sort t k) s e
      → (t ≡ sort_parameter (byte_of_next s) (name_of (seen s))) × Has k (after s) e
  go (sort_parameter p m) k e a h =
      let x = placed-step p (identifier m) k s e h in (
        ap (λ q. sort_parameter q m) x.1
            ∙ ap (λ v. sort_parameter (byte_of_next s) (name_of v)) (sym x.0),
        x.2,
      )
  go (sort_applied p m ss) k e a h =
      let x = placed-step p (identifier m) (any (mark 123) ∷ listed (spell_sorts ss) 125 k) s e h in
      let y = any-step (mark 123) (listed (spell_sorts ss) 125 k) (after s) e x.2 in
      absurd (contrary (has_mark 123 (seen (after s))) (ap (has_mark 123) y.0) n)

pub applied : (s r : Stream) (xs : List SortTree) → has_mark 123 (seen (after s)) ≡ true
    → Reads (spell_list spell_sort 125) xs (after (after s)) r
    → Reads spell_sort (sort_applied (byte_of_next s) (name_of (seen s)) (sort_trees xs)) s r
applied s r xs n i = record { exact = go } where
  go : (t : SortTree) (k : List Requirement) (e : Stream) → Apart k e → Has (spell_sort t k) s e
      → (t ≡ sort_applied (byte_of_next s) (name_of (seen s)) (sort_trees xs)) × Has k r e
  go (sort_parameter p m) k e a h =
      let x = placed-step p (identifier m) k s e h in
      absurd (contrary (has_mark 123 (seen (after s))) n (apart-seen k (after s) e a x.2))
  go (sort_applied p m ss) k e a h =
      let x = placed-step p (identifier m) (any (mark 123) ∷ listed (spell_sorts ss) 125 k) s e h in
      let y = any-step (mark 123) (listed (spell_sorts ss) 125 k) (after s) e x.2 in
      let z = sorts-exact xs (after (after s)) r i ss k e a y.1 in (
        ap (λ q. sort_applied q m ss) x.1
            ∙ ap (λ v. sort_applied (byte_of_next s) (name_of v) ss) (sym x.0)
            ∙ ap (sort_applied (byte_of_next s) (name_of (seen s))) z.0,
        z.1,
      )

pub begins-sort : (close : ℕ) → Begins spell_sort close
begins-sort close = record { open_at = go } where
  go : (t : SortTree) (k : List Requirement) (s e : Stream) → Has (spell_sort t k) s e
      → is_over close (seen s) ≡ false
  go (sort_parameter p m) k s e h = ap (is_over close) (placed-step p (identifier m) k s e h).0
  go (sort_applied p m ss) k s e h =
      ap (is_over close)
      (placed-step p (identifier m) (any (mark 123) ∷ listed (spell_sorts ss) 125 k) s e h).0

pub param-read : (at : ℕ) (n : List ℕ) (s r : Stream) → at ≡ byte_of_next s → n ≡ name_of (seen s)
    → r ≡ after s → has_mark 123 (seen r) ≡ false → Reads spell_sort (sort_parameter at n) s r
param-read at n s r e f g m =
    subst (λ u. Reads spell_sort (sort_parameter at n) s u) (sym g)
    (reads-is spell_sort (sort_parameter (byte_of_next s) (name_of (seen s))) (sort_parameter at n)
    s (after s)
    (ap (λ p. sort_parameter p (name_of (seen s))) (sym e) ∙ ap (sort_parameter at) (sym f))
    (parameter s (subst (λ u. has_mark 123 (seen u) ≡ false) g m)))

pub applied-read : (at : ℕ) (n : List ℕ) (s s1 s2 r : Stream) (xs : List SortTree)
    → at ≡ byte_of_next s → n ≡ name_of (seen s) → s1 ≡ after s → has_mark 123 (seen s1) ≡ true
    → s2 ≡ after s1 → Reads (spell_list spell_sort 125) xs s2 r
    → Reads spell_sort (sort_applied at n (sort_trees xs)) s r
applied-read at n s s1 s2 r xs e f g m h i =
    reads-is spell_sort (sort_applied (byte_of_next s) (name_of (seen s)) (sort_trees xs))
    (sort_applied at n (sort_trees xs)) s r
    (ap (λ p. sort_applied p (name_of (seen s)) (sort_trees xs)) (sym e)
    ∙ ap (λ p. sort_applied at p (sort_trees xs)) (sym f))
    (applied s r xs (subst (λ u. has_mark 123 (seen u) ≡ true) g m)
    (subst (λ u. Reads (spell_list spell_sort 125) xs u r) (h ∙ ap after g) i))
