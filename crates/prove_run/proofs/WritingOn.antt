-- Writing what was made, and then a theorem, as one step.
use Rattle.std.proofs.Common.{◌≡◌, ℕ, List, [], ◌∷◌, ◌++◌, ap, ◌∙◌, sym, subst}
use Rattle.std.specs.Prelude.{Result, Ok, Err, OnOk}
use Rattle.std.proofs.lemmas.List.{append_assoc}
use Rattle.ml_pat.specs.Patterns.{Pattern}
use Rattle.ml_kernel.specs.Theorems.{Theorem}
use Rattle.rule_core.specs.declared.rules.Program.{Program}
use Rattle.rule_core.specs.ProgramView.{theory_of}
use Rattle.mm_claims.specs.Rendered.{Rendered}
use Rattle.mm_justify.specs.Justifying.{IsProofOfRun}
use Rattle.prove_term.specs.Contexts.{Context}
use Rattle.proof_writer.specs.declared.writer.ProofParts.{ProofParts}
use Rattle.proof_writer.specs.declared.writer.Writer.{Writer}
use Rattle.proof_writer.specs.Writing.{context_of, Adds, Concludes, Keeps, MayFollow}

pub on_any : {T E : Type 0} {P : Type 0} (r : Result T E) → P → OnOk r P
on_any (Ok x) p = p
on_any (Err e) p = tt

-- the context of what a `Cx` lends
pub same_context : (cx : Context) (made : ProofParts) → made.program.now ≡ cx.program
    → made.names.now ≡ cx.names → made.theory.now ≡ cx.axioms → made.lemmas.now ≡ cx.lemmas
    → context_of made ≡ cx
same_context cx made program names axioms lemmas =
    ap (λ (x : Program). whole x made.names.now made.theory.now made.lemmas.now) program
    ∙ ap (λ (x : List (List ℕ)). whole cx.program x made.theory.now made.lemmas.now) names
    ∙ ap (λ (x : List Pattern). whole cx.program cx.names x made.lemmas.now) axioms
    ∙ ap (λ (x : List Theorem). whole cx.program cx.names cx.axioms x) lemmas
  where
    whole : Program → List (List ℕ) → List Pattern → List Theorem → Context
    whole p ns ps ts = record { program = p; names = ns; axioms = ps; lemmas = ts }

-- what follows from what was written follows also from more
pub follows_later : (cx : Context) (k new : Rendered) (t : Theorem) → Keeps k new → MayFollow cx k t
    → MayFollow cx new t
follows_later cx k new t keeps follows s has told =
    follows s has (λ hs q h. told hs q (keeps hs q h))

tail_same : (a b : ℕ) (xs ys : List ℕ) → a ∷ xs ≡ b ∷ ys → xs ≡ ys
tail_same a b xs ys h = cc

pub added_same : (before xs ys : List ℕ) → before ++ xs ≡ before ++ ys → xs ≡ ys
added_same [] xs ys h = h
added_same (b ∷ before) xs ys h =
    added_same before xs ys (tail_same b b (before ++ xs) (before ++ ys) h)

-- what a theorem concludes after what was written before it
pub concludes_after : (cx : Context) (a b c : Writer) (t : Theorem) (x y z : List ℕ)
    → Adds cx a b x y → Adds cx b c y z → Concludes cx b t y z → Concludes cx a t x z
concludes_after cx a b c t x y z (m, is, f) (n, is', g) concludes start end from to added text none
    none' image image' says whole h =
    let same : m ++ n ≡ added =
    added_same x (m ++ n) added
    (sym (append_assoc x m n) ∙ ap (λ (l : List ℕ). l ++ n) (sym is) ∙ sym is' ∙ whole) in
    subst (λ (l : List ℕ). IsProofOfRun l (theory_of cx.program) start end)
    (append_assoc text m n ∙ ap (λ (l : List ℕ). text ++ l) same)
    (concludes start end from to n (text ++ m) none none' image image' says is' (f text h))
