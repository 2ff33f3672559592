-- Lines that are read as their declarations.
use Rattle.std.proofs.Common.{◌≡◌, ◌<◌, ◌+◌, ◌^◌, ℕ, zero, suc, true, List, [], ◌∷◌, ◌++◌, map}
use Rattle.std.proofs.Common.{refl, sym, subst, arith}
use Rattle.kore_text.specs.TokenStream.{Stream}
use Rattle.kore_text.specs.Trees.{Declaration}
use Rattle.kore_text.specs.Grammar.{Requirement, TakesTokens, in_order, spell_declaration}
use Rattle.kore_text.specs.Depth.{IsShallow}
use Rattle.drill_accepted.proofs.Parts.{Part, tokens_from, place_after, AreSmall, are_parted}
use Rattle.drill_accepted.proofs.Parts.{AreRead, are-read, read-both, tokens-append, place-append}
use Rattle.drill_accepted.proofs.Taking.{token_places, fulfilled, left_after, all_hold, takes-all}
use Rattle.drill_accepted.proofs.Taking.{takes-both, open_after, is_low, low-shallow}
use Rattle.drill_accepted.proofs.DrillTrees.{Places}
use Rattle.drill_accepted.proofs.DrillLines.{Line, parts_of, int_line, bool_line, step_sort_line}
use Rattle.drill_accepted.proofs.DrillLines.{state_sort_line, add_line, ge_line, state_line}
use Rattle.drill_accepted.proofs.DrillLines.{fixed_lines, step_line, axiom_line, step_lines}
use Rattle.drill_accepted.proofs.DrillLines.{axiom_lines, drill_lines}

-- the declaration of a line that begins at this place
abbrev pub declared_at : ℕ → Line → Declaration
declared_at at l = l.declared (token_places at l.parts)

abbrev pub declared_from : ℕ → List Line → List Declaration
declared_from at [] = []
declared_from at (l ∷ ls) = declared_at at l ∷ declared_from (place_after at l.parts) ls

-- the line is read, and spells its declaration, whatever comes after it
pub record IsGood (l : Line) : Type 0 where
  pub read : AreRead l.parts
  pub spelled : (at : ℕ) (more : ℕ → Stream) (k : List Requirement) (e : Stream)
      → TakesTokens k (more (place_after at l.parts)) e →
      TakesTokens (spell_declaration (declared_at at l) k) (tokens_from at l.parts more) e
  pub shallow : (at : ℕ) (more : ℕ → Stream) → IsShallow 0 (more (place_after at l.parts)) →
      IsShallow 0 (tokens_from at l.parts more)

-- what a line has to show by computation
pub record IsChecked (l : Line) : Type 0 where
  pub parted : are_parted l.parts ≡ true
  pub low : is_low 0 l.parts ≡ true
  pub closed : open_after 0 l.parts ≡ 0
  pub ends : (q : Places) (k : List Requirement)
      → spell_declaration (l.declared q) k ≡ spell_declaration
      (l.declared q) [] ++ k
  pub holds : (q : Places) → all_hold (spell_declaration (l.declared q) []) ≡ true
  pub filled : (at : ℕ) (more : ℕ → Stream) →
      fulfilled (spell_declaration (declared_at at l) []) (tokens_from at l.parts more)
      ≡ tokens_from at l.parts more
  pub left : (at : ℕ) (more : ℕ → Stream) →
      left_after (spell_declaration (declared_at at l) []) (tokens_from at l.parts more) ≡ more
      (place_after at l.parts)

good : (l : Line) → IsChecked l → AreSmall l.parts → IsGood l
good l c small = record {
  read = are-read l.parts c.parted small;
  spelled = λ at more k e h.
      let ws : List Requirement = spell_declaration (declared_at at l) [] in
      let s : Stream = tokens_from at l.parts more in
      let taken : TakesTokens ws s (left_after ws s) =
      takes-all ws s (c.holds (token_places at l.parts))
      (c.filled at more) in
      let rest : TakesTokens k (left_after ws s) e = subst (λ (x : Stream). TakesTokens k x e)
      (sym (c.left at more)) h in
      subst (λ (vs : List Requirement). TakesTokens vs s e)
      (sym (c.ends (token_places at l.parts) k))
      (takes-both ws k s (left_after ws s) e taken rest);
  shallow = λ at more h.
      low-shallow l.parts 0 at more c.low
      (subst (λ (n : ℕ). IsShallow n (more (place_after at l.parts))) (sym c.closed) h);
}

abbrev pub AllGood : List Line → Type 0
AllGood [] = Unit {0}
AllGood (l ∷ ls) = IsGood l × AllGood ls

all-good-both : (ls ms : List Line) → AllGood ls → AllGood ms → AllGood (ls ++ ms)
all-good-both [] ms g h = h
all-good-both (l ∷ ls) ms g h = (g.0, all-good-both ls ms g.1 h)

-- ---- lines one after the other

pub lines-read : (ls : List Line) → AllGood ls → AreRead (parts_of ls)
lines-read [] g = are-read [] refl tt
lines-read (l ∷ ls) g = read-both l.parts (parts_of ls) g.0.read (lines-read ls g.1)

-- what is so of the tokens of a line and then of those of the others is so of the tokens of all
on-all : (ps qs : List Part) (at : ℕ) (more : ℕ → Stream) (P : Stream → Type 0)
    → P (tokens_from at ps (λ i. tokens_from i qs more)) → P (tokens_from at (ps ++ qs) more)
on-all ps qs at more P h = subst P (sym (tokens-append ps qs at more)) h

pub lines-spelled : (ls : List Line) → AllGood ls
    → (at : ℕ) (more : ℕ → Stream) (k : List Requirement)
    (e : Stream)
    → TakesTokens k (more (place_after at (parts_of ls))) e
    → TakesTokens (in_order (map spell_declaration (declared_from at ls)) k)
    (tokens_from at (parts_of ls) more) e
lines-spelled [] g at more k e h = h
lines-spelled (l ∷ ls) g at more k e h =
    let here : ℕ = place_after at l.parts in
    let rest : List Requirement = in_order (map spell_declaration (declared_from here ls)) k in
    let last : TakesTokens k (more (place_after here (parts_of ls))) e =
    subst (λ (i : ℕ). TakesTokens k (more i) e) (place-append l.parts (parts_of ls) at) h in
    on-all l.parts (parts_of ls) at more (λ (s : Stream). TakesTokens
    (spell_declaration (declared_at at l) rest) s e)
    (g.0.spelled at (λ i. tokens_from i (parts_of ls) more) rest e
    (lines-spelled ls g.1 here more k e last))

pub lines-shallow : (ls : List Line) → AllGood ls → (at : ℕ) (more : ℕ → Stream)
    → IsShallow 0 (more (place_after at (parts_of ls)))
    → IsShallow 0 (tokens_from at (parts_of ls) more)
lines-shallow [] g at more h = h
lines-shallow (l ∷ ls) g at more h =
    let here : ℕ = place_after at l.parts in
    let last : IsShallow 0 (more (place_after here (parts_of ls))) =
    subst (λ (i : ℕ). IsShallow 0 (more i)) (place-append l.parts (parts_of ls) at) h in
    on-all l.parts (parts_of ls) at more (IsShallow 0)
    (g.0.shallow at (λ i. tokens_from i (parts_of ls) more) (lines-shallow ls g.1 here more last))

-- ---- the lines of a drill

checked : (l : Line) → are_parted l.parts ≡ true → is_low 0 l.parts ≡ true
    → open_after 0 l.parts ≡ 0
    → ((q : Places) (k : List Requirement) → spell_declaration (l.declared q) k
    ≡ spell_declaration (l.declared q) [] ++ k)
    → ((q : Places) → all_hold (spell_declaration (l.declared q) []) ≡ true)
    → ((at : ℕ) (more : ℕ → Stream) →
    fulfilled (spell_declaration (declared_at at l) []) (tokens_from at l.parts more)
    ≡ tokens_from at l.parts more)
    → ((at : ℕ) (more : ℕ → Stream) →
    left_after (spell_declaration (declared_at at l) []) (tokens_from at l.parts more) ≡ more
    (place_after at l.parts))
    → IsChecked l
checked l parted low closed ends holds filled left = record {
  parted = parted;
  low = low;
  closed = closed;
  ends = ends;
  holds = holds;
  filled = filled;
  left = left;
}

checked-step : (i : ℕ) → IsChecked (step_line i)
checked-step i = checked (step_line i) refl refl refl (λ q k. refl) (λ q. refl) (λ at more. refl)
    (λ at more. refl)

checked-rule : (i : ℕ) → IsChecked (axiom_line i)
checked-rule i = checked (axiom_line i) refl refl refl (λ q k. refl) (λ q. refl) (λ at more. refl)
    (λ at more. refl)

checked-int : IsChecked int_line
checked-int = checked int_line refl refl refl (λ q k. refl) (λ q. refl) (λ at more. refl)
    (λ at more. refl)

checked-bool : IsChecked bool_line
checked-bool = checked bool_line refl refl refl (λ q k. refl) (λ q. refl) (λ at more. refl)
    (λ at more. refl)

checked-cells : IsChecked step_sort_line
checked-cells = checked step_sort_line refl refl refl (λ q k. refl) (λ q. refl) (λ at more. refl)
    (λ at more. refl)

checked-states : IsChecked state_sort_line
checked-states = checked state_sort_line refl refl refl (λ q k. refl) (λ q. refl) (λ at more. refl)
    (λ at more. refl)

checked-add : IsChecked add_line
checked-add = checked add_line refl refl refl (λ q k. refl) (λ q. refl) (λ at more. refl)
    (λ at more. refl)

checked-ge : IsChecked ge_line
checked-ge = checked ge_line refl refl refl (λ q k. refl) (λ q. refl) (λ at more. refl)
    (λ at more. refl)

checked-state : IsChecked state_line
checked-state = checked state_line refl refl refl (λ q k. refl) (λ q. refl) (λ at more. refl)
    (λ at more. refl)

first-good : AllGood fixed_lines
first-good = (
  good int_line checked-int tt,
  (
    good bool_line checked-bool tt,
    (
      good step_sort_line checked-cells tt,
      (
        good state_sort_line checked-states tt,
        (
          good add_line checked-add tt,
          (
            good ge_line checked-ge tt,
            (good state_line checked-state tt, tt),
          ),
        ),
      ),
    ),
  ),
)

steps-good : (n : ℕ) → n < 2 ^ 64 → AllGood (step_lines n)
steps-good zero few = tt
steps-good (suc n) few =
    let small : n < 2 ^ 64 = omega (arith, few) in
    all-good-both (step_lines n) (step_line n ∷ []) (steps-good n small)
    (good (step_line n) (checked-step n) (small, tt), tt)

rules-good : (n : ℕ) → n + 1 < 2 ^ 64 → AllGood (axiom_lines n)
rules-good zero few = tt
rules-good (suc n) few =
    let small : n < 2 ^ 64 = omega (arith, few) in
    let next : n + 1 < 2 ^ 64 = omega (arith, few) in
    all-good-both (axiom_lines n) (axiom_line n ∷ []) (rules-good n next)
    (good (axiom_line n) (checked-rule n) (small, (next, (small, tt))), tt)

pub drill-good : (n : ℕ) → n + 1 < 2 ^ 64 → AllGood (drill_lines n)
drill-good n few =
    all-good-both fixed_lines (step_lines (n + 1) ++ axiom_lines n) first-good
    (all-good-both (step_lines (n + 1)) (axiom_lines n) (steps-good (n + 1) few) (rules-good n few))
