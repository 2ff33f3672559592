use Rattle.std.proofs.Common.{◌≡◌, ℕ, ◌∙◌, Some, suc, sym, ap, drop, drop-cons}
use Rattle.std.proofs.Common.{get_or, ◌∷◌, List}
use Rattle.std.specs.Prelude.{option_map}
use Rattle.pattern_reader.specs.Machine.{run, Stack}
use Rattle.pattern_reader.specs.Views.{words_of, word_of, stack_of}
use Rattle.pattern_reader.specs.declared.words.Word.{Word}
use Rattle.pattern_reader.specs.declared.words.Word.TheVariants.{Open}
use Rattle.pattern_reader.proofs.MachineLaws.{stuck}
use Rattle.pattern_reader.proofs.reading.spelled.Goals as goal

pub returns-in-None : goal.returns-in-None
returns-in-None c p h =
    let i : ℕ = c.loop-word.word-index in
    let all : List Word = c.args.words.now in
    let s : Stack = stack_of c.loop-word.below.items c.loop-word.top in
    let here : drop i all ≡ (get_or all i Open ∷ drop (suc i) all) =
    drop-cons all i Open c.loop-word-test.true in
    stuck s (word_of (get_or all i Open)) (words_of (drop (suc i) all)) (words_of all) p
    (sym c.in_ok-next.ensures ∙ ap (option_map (stack_of c.step.new.below.items)) c.in-None.is)
    (ap (λ (ws : List Word). run (words_of ws) (Some s)) (sym here) ∙ c.loop-word.invariant)
    h
