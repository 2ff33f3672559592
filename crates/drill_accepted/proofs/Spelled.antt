-- The text of a drill's definition spells its tree, and that of its term its own.
use Rattle.std.proofs.Common.{◌≡◌, ◌<◌, ◌+◌, ◌^◌, ℕ, false, List, [], ◌∷◌, ◌++◌, refl, ap, sym, ◌∙◌}
use Rattle.std.proofs.Common.{subst, codes}
use Rattle.std.proofs.lemmas.List.{append-nil}
use Rattle.drill_gen.specs.Drill.{drill_definition, drill_term}
use Rattle.kore_lex.specs.Lexed.{lexed}
use Rattle.kore_lex.specs.Pieces.{piece}
use Rattle.kore_lex.proofs.Lexing.{lexed-is}
use Rattle.kore_text.specs.TokenStream.{Stream, end, named_tokens, token_stream}
use Rattle.kore_text.specs.Trees.{ModuleTree, DefinitionTree}
use Rattle.kore_text.specs.Grammar.{TakesTokens, spell_pattern, spell_definition}
use Rattle.kore_text.specs.Depth.{IsShallow}
use Rattle.kore_ast.specs.KoreText.{ReadsPattern, ReadsDefinition}
use Rattle.drill_accepted.proofs.Parts.{Part, parts_text, tokens_from, place_after, AreRead}
use Rattle.drill_accepted.proofs.Parts.{are-read, read-both, tokens-append, tokens-last}
use Rattle.drill_accepted.proofs.Taking.{token_places, takes-all, low-shallow}
use Rattle.drill_accepted.proofs.DrillTrees.{term_tree}
use Rattle.drill_accepted.proofs.DrillLines.{parts_of, drill_lines, opening_parts, closing_parts}
use Rattle.drill_accepted.proofs.DrillLines.{drill_parts, term_parts}
use Rattle.drill_accepted.proofs.DrillTexts.{definition-text, term-text}
use Rattle.drill_accepted.proofs.SpelledLines.{declared_from, AllGood, drill-good, lines-read}
use Rattle.drill_accepted.proofs.SpelledLines.{lines-spelled, lines-shallow}

-- ---- the tree

-- the place of the first declaration
abbrev pub declared_place : ℕ
declared_place = place_after 0 opening_parts

abbrev pub drill_module : ℕ → ModuleTree
drill_module n = record {
  at = 3;
  name = codes "DRILL";
  declarations = declared_from declared_place (drill_lines n);
  attributes = [];
}

abbrev pub drill_tree : ℕ → DefinitionTree
drill_tree n = record { attributes = []; modules = drill_module n ∷ [] }

-- ---- the tokens

nothing-left : (text : List ℕ) (at : ℕ) → named_tokens text (lexed at []) ≡ end at
unfolding piece
nothing-left text at = ap (named_tokens text) (lexed-is at [])

-- the text of parts has their tokens, and no others
tokens-read : (ps : List Part) → AreRead ps → token_stream (parts_text ps) ≡ tokens_from 0 ps end
unfolding token_stream
tokens-read ps r =
    let t : List ℕ = parts_text ps in
    let here = r 0 t [] (sym (append-nil t)) in
    ap (λ (bs : List ℕ). named_tokens t (lexed 0 bs)) (sym (append-nil t)) ∙ here.tokens
    ∙ tokens-last ps 0 (λ i. named_tokens t (lexed i [])) end (nothing-left t (place_after 0 ps))

opening-read : AreRead opening_parts
opening-read = are-read opening_parts refl tt

closing-read : AreRead closing_parts
closing-read = are-read closing_parts refl tt

drill-read : (n : ℕ) → AllGood (drill_lines n) → AreRead (drill_parts n)
drill-read n g =
    read-both opening_parts (parts_of (drill_lines n) ++ closing_parts) opening-read
    (read-both (parts_of (drill_lines n)) closing_parts (lines-read (drill_lines n) g) closing-read)

-- the tokens of a drill: those in front of its lines, those of its lines, and those after them
drill-tokens : (n : ℕ) → tokens_from 0 (drill_parts n) end
    ≡ tokens_from 0 opening_parts (λ i. tokens_from i (parts_of (drill_lines n))
    (λ j. tokens_from j closing_parts end))
drill-tokens n =
    tokens-append opening_parts (parts_of (drill_lines n) ++ closing_parts) 0 end
    ∙ tokens-last opening_parts 0 (λ i. tokens_from i
    (parts_of (drill_lines n) ++ closing_parts) end)
    (λ i. tokens_from i (parts_of (drill_lines n)) (λ j. tokens_from j closing_parts end))
    (tokens-append (parts_of (drill_lines n)) closing_parts declared_place end)

-- ---- the definition

pub definition-spelled : (n : ℕ) → n + 1 < 2 ^ 64 → ReadsDefinition (drill_definition n)
    (drill_tree n)
definition-spelled n few =
    let g : AllGood (drill_lines n) = drill-good n few in
    let parts : List Part = parts_of (drill_lines n) in
    let same : token_stream (drill_definition n)
    ≡ tokens_from 0 opening_parts (λ i. tokens_from i parts (λ j. tokens_from j closing_parts end))
    =
    ap token_stream (definition-text n) ∙ tokens-read (drill_parts n) (drill-read n g)
    ∙ drill-tokens n in
    let last : ℕ = place_after declared_place parts in
    let shallow : IsShallow 0 (tokens_from 0 opening_parts
    (λ i. tokens_from i parts (λ j. tokens_from j closing_parts end))) =
    low-shallow opening_parts 0 0 (λ i. tokens_from i parts (λ j. tokens_from j closing_parts end))
    refl
    (lines-shallow (drill_lines n) g declared_place (λ j. tokens_from j closing_parts end)
    (low-shallow closing_parts 0 last end refl tt)) in
    let e : ℕ = place_after last closing_parts in
    let spelled : TakesTokens (spell_definition (drill_tree n) [])
    (tokens_from 0 opening_parts (λ i. tokens_from i parts (λ j. tokens_from j closing_parts end)))
    (end e) = (
      refl,
      (
        refl,
        (
          refl,
          (
            refl,
            refl,
            (
              refl,
              lines-spelled (drill_lines n) g declared_place
                  (λ j. tokens_from j closing_parts end) _ (end e) (refl, (refl, (refl, refl))),
            ),
          ),
        ),
      ),
    ) in (
      subst (IsShallow 0) (sym same) shallow,
      (
        e,
        subst (λ (s : Stream). TakesTokens (spell_definition (drill_tree n) []) s (end e))
            (sym same) spelled,
      ),
    )

-- ---- the term

-- the places of its tokens
abbrev pub term_places : ℕ → ℕ
term_places = token_places 0 term_parts

pub term-spelled : ReadsPattern drill_term (term_tree term_places)
term-spelled =
    let same : token_stream drill_term ≡ tokens_from 0 term_parts end =
    ap token_stream term-text ∙ tokens-read term_parts (are-read term_parts refl tt) in
    let e : ℕ = place_after 0 term_parts in
    let spelled : TakesTokens (spell_pattern false (term_tree term_places) [])
    (tokens_from 0 term_parts end) (end e) =
    takes-all (spell_pattern false (term_tree term_places) [])
    (tokens_from 0 term_parts end) refl refl in (
      subst (IsShallow 0) (sym same) (low-shallow term_parts 0 0 end refl tt),
      (
        e,
        subst
            (λ (s : Stream). TakesTokens (spell_pattern false (term_tree term_places) []) s (end e))
            (sym same) spelled,
      ),
    )
