-- The canonical text of a pattern that can be read spells it.
use Rattle.std.proofs.Common.{◌≡◌, false, List, [], refl, sym, subst}
use Rattle.kore_text.specs.TokenStream.{Stream, end, token_stream}
use Rattle.kore_text.specs.Grammar.{Requirement, TakesTokens, spell_pattern}
use Rattle.kore_text.specs.Depth.{IsShallow}
use Rattle.kore_print.specs.CanonicalText.{canonical_text}
use Rattle.kore_print.specs.Reading.{unplaced}
use Rattle.kore_print.specs.PrintLaws.{ReadableReadsBack}
use Rattle.kore_print.proofs.SpelledStreams.{stream_of, Parted, tokens-spelled, spelled-shallow}
use Rattle.kore_print.proofs.PartedPatterns.{pattern-parts}
use Rattle.kore_print.proofs.Settling.{Settled, settled-pattern, stand-holds}

pub reads_back : ReadableReadsBack
reads_back p h =
    let ws : List Requirement = spell_pattern false p [] in
    let a : Settled (spell_pattern false) unplaced p [] 0 =
    settled-pattern false p [] 0 (stand-holds ws 0 h) in
    let d : Parted ws = pattern-parts false p [] refl tt in
    let e : token_stream (canonical_text p) ≡ stream_of 0 ws = tokens-spelled ws 0 h d in
    let s : IsShallow 0 (token_stream (canonical_text p)) =
    subst (λ (s : Stream). IsShallow 0 s) (sym e) (spelled-shallow ws 0 0 h) in
    let t : TakesTokens (spell_pattern false a.to []) (token_stream (canonical_text p))
    (end a.rest) =
    subst (λ (s : Stream). TakesTokens (spell_pattern false a.to []) s (end a.rest)) (sym e)
    (a.spelled [] (end a.rest) refl) in
    (a.to, a.same, (s, (a.rest, t)))
