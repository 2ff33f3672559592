-- In the spelling of a pattern, each token may be followed by what follows it.
use Rattle.std.proofs.Common.{◌≡◌, ℕ, Bool, true, false, List, [], ◌∷◌, refl, ◌==◌}
use Rattle.kore_text.specs.Trees.{SortTree, sort_parameter, sort_applied, SortTrees, no_sorts}
use Rattle.kore_text.specs.Trees.{sort_then, PatternTree, element_variable, set_variable, string}
use Rattle.kore_text.specs.Trees.{symbol_applied, connected, binder_applied, value_written, folded}
use Rattle.kore_text.specs.Trees.{PatternTrees, no_patterns, pattern_then}
use Rattle.kore_text.specs.TokenStream.{mark}
use Rattle.kore_text.specs.Grammar.{Requirement, Spelling, listed, more_listed, spell_sort}
use Rattle.kore_text.specs.Grammar.{spell_sorts, spell_pattern, spell_patterns}
use Rattle.kore_print.proofs.SpelledStreams.{is_marked, is_named, Suits, Parted}

-- a spelling parts its tokens if only a mark follows it
abbrev Parts : Spelling → Type 0
Parts f = (k : List Requirement) → is_marked k ≡ true → Parted k → Parted (f k)

abbrev AllPart : List Spelling → Type 0
AllPart [] = Unit {0}
AllPart (f ∷ fs) = Parts f × AllPart fs

more-marked : (fs : List Spelling) (close : ℕ) (k : List Requirement)
    → is_marked (more_listed fs close k) ≡ true
more-marked [] close k = refl
more-marked (f ∷ fs) close k = refl

no-colon : (c : ℕ) (ws : List Requirement) → (c == 58) ≡ false → Suits (mark c) ws
no-colon c ws h = rw h refl

mutual
  listed-parts : (fs : List Spelling) (close : ℕ) (k : List Requirement) → (close == 58) ≡ false
      → AllPart fs → Parted k → Parted (listed fs close k)
  listed-parts [] close k c a h = (no-colon close k c, h)
  listed-parts (f ∷ fs) close k c a h =
      a.0 (more_listed fs close k) (more-marked fs close k) (more-parts fs close k c a.1 h)

  more-parts : (fs : List Spelling) (close : ℕ) (k : List Requirement) → (close == 58) ≡ false
      → AllPart fs → Parted k → Parted (more_listed fs close k)
  more-parts [] close k c a h = (no-colon close k c, h)
  more-parts (f ∷ fs) close k c a h =
      (refl, a.0 (more_listed fs close k) (more-marked fs close k) (more-parts fs close k c a.1 h))

mutual
  sort-parts : (s : SortTree) → Parts (spell_sort s)
  sort-parts (sort_parameter at n) k m h = (m, h)
  sort-parts (sort_applied at n ss) k m h =
      (refl, (refl, listed-parts (spell_sorts ss) 125 k refl (sorts-part ss) h))

  sorts-part : (ss : SortTrees) → AllPart (spell_sorts ss)
  sorts-part no_sorts = tt
  sorts-part (sort_then s ss) = (sort-parts s, sorts-part ss)

sort-named : (s : SortTree) (k : List Requirement) → is_named (spell_sort s k) ≡ true
sort-named (sort_parameter at n) k = refl
sort-named (sort_applied at n ss) k = refl

sorts-parts : (ss : SortTrees) (k : List Requirement) → Parted k
    → Parted (listed (spell_sorts ss) 125 k)
sorts-parts ss k h = listed-parts (spell_sorts ss) 125 k refl (sorts-part ss) h

mutual
  pub pattern-parts : (b : Bool) (p : PatternTree) → Parts (spell_pattern b p)
  pattern-parts b (element_variable at n s) k m h = (refl, (sort-named s k, sort-parts s k m h))
  pattern-parts b (set_variable at n s) k m h = (refl, (sort-named s k, sort-parts s k m h))
  pattern-parts b (string at t) k m h = (tt, h)
  pattern-parts b (symbol_applied at n ss ps) k m h = (
    refl,
    (
      refl,
      sorts-parts ss _
          (refl, listed-parts (spell_patterns b ps) 41 k refl (patterns-part b ps) h),
    ),
  )
  pattern-parts b (connected at o ss ps) k m h = (
    refl,
    (
      refl,
      sorts-parts ss _
          (refl, listed-parts (spell_patterns b ps) 41 k refl (patterns-part b ps) h),
    ),
  )
  pattern-parts b (binder_applied at o ss x p) k m h = (
    refl,
    (
      refl,
      sorts-parts ss _
          (refl, pattern-parts b x _ refl (refl, pattern-parts b p _ refl (refl, h))),
    ),
  )
  pattern-parts b (value_written at s t place) k m h =
      (refl, (refl, sort-parts s _ refl (refl, (refl, (tt, (refl, h))))))
  pattern-parts b (folded at left p) k m h =
      (refl, (refl, (refl, (refl, pattern-parts b p _ refl (refl, h)))))

  patterns-part : (b : Bool) (ps : PatternTrees) → AllPart (spell_patterns b ps)
  patterns-part b no_patterns = tt
  patterns-part b (pattern_then p ps) = (pattern-parts b p, patterns-part b ps)
