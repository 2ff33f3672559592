use Rattle.std.proofs.Common.{◌∙◌, ap, sym, subst, List, ℕ, [], Bool, append-nil}
use Rattle.mm_verify.specs.Reading.{meant, letters_of, ReadsOn}
use Rattle.mm_verify.proofs.ReadProofs.{started}
use Rattle.mm_verify.proofs.proof_text.read_letters.Goals as goal

pub returns-then-branch : goal.returns-then-branch
returns-then-branch c =
    let letters = letters_of c.args.bytes.now c.args.tokens.now in
    c.ended.ensures
    ∙
    sym (subst (λ (b : Bool). ReadsOn c.in_ok-read.read letters c.take_words.new.self
    b) c.if-branch.true c.in_ok-take_words.ensures [])
    ∙ ap (λ (l : List ℕ). meant c.in_ok-read.read l) (append-nil letters)
    ∙ started c.in_ok-read.read c.args.mandatory.now c.args.listed c.in_ok-read.ensures.mandatory
    c.in_ok-read.ensures.listed c.in_ok-read.ensures.steps c.in_ok-read.ensures.behind
    c.in_ok-read.ensures.saved letters

pub returns : goal.returns
returns c =
    let letters = letters_of c.args.bytes.now c.args.tokens.now in
    sym (subst (λ (b : Bool). ReadsOn c.in_ok-read.read letters c.take_words.new.self
    b) c.if-branch.false c.in_ok-take_words.ensures [])
    ∙ ap (λ (l : List ℕ). meant c.in_ok-read.read l) (append-nil letters)
    ∙ started c.in_ok-read.read c.args.mandatory.now c.args.listed c.in_ok-read.ensures.mandatory
    c.in_ok-read.ensures.listed c.in_ok-read.ensures.steps c.in_ok-read.ensures.behind
    c.in_ok-read.ensures.saved letters
