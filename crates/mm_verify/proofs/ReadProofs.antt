-- Laws on the texts of proofs.
use Rattle.std.proofs.Common.{◌≡◌, ℕ, suc, ◌+◌, ◌<◌, Bool, true, List, [], ◌∷◌, ◌++◌, length, drop}
use Rattle.std.proofs.Common.{drop-cons, get_or, map, flat_map, Option, Some, None, refl, ap, sym}
use Rattle.std.proofs.Common.{◌∙◌, arith, append_assoc}
use Rattle.mm_text.specs.Reader.{word_of, words_of}
use Rattle.mm_text.specs.declared.tokens.MmToken.{MmToken}
use Rattle.mm_database.specs.ProofText.{with_step}
use Rattle.mm_verify.specs.Citing.{cited_at, all_cited}
use Rattle.std.specs.Prelude.{option_and_then, if◌then◌else◌, codes}
use Rattle.std.specs.Global.{Vec}
use Rattle.mm_text.specs.Bytes.{Token, has_token}
use Rattle.mm_frame.specs.Numbered.{NumberedHypothesis}
use Rattle.mm_database.specs.Steps as steps
use Rattle.mm_frame.specs.NumberedSteps as numbered
use Rattle.mm_scope.specs.ScopeState.{ScopeState}
use Rattle.mm_verify.specs.declared.machine.Step.{Step}
use Rattle.mm_verify.specs.declared.machine.Citation.{Citation}
use Rattle.mm_verify.specs.declared.digits.Behind.{Behind}
use Rattle.mm_verify.specs.declared.digits.Behind.TheVariants.{Nothing}
use Rattle.mm_verify.specs.declared.letters.ReadSteps.{ReadSteps}
use Rattle.mm_scope.specs.StandingLaws.{place_of}
use Rattle.mm_verify.specs.declared.machine.ProofFault.{ProofFault}
use Rattle.mm_verify.specs.Running.{step_of, steps_fault}
use Rattle.mm_verify.specs.Judging.{kind_of, proof_kind}
use Rattle.mm_verify.specs.Digits.{before_of}
use Rattle.mm_verify.specs.Reading.{left_meanings, behind_items, meant, table_of}
use Rattle.mm_frame.specs.PlainFrames.{mandatory_hypotheses}
use Rattle.mm_frame.specs.declared.asking.Mandatory.{Mandatory}
use Rattle.mm_verify.specs.ProofSteps.{given_by, listed_citations, lettered, compressed_proof}
use Rattle.mm_database.specs.ProofText.{before_close, behind_close, lettered_steps}

behind-nothing : (left : Option (List (steps.Step numbered.Citation))) → behind_items [] left ≡ left
behind-nothing None = refl
behind-nothing (Some others) = refl

pub started : (r : ReadSteps) (mandatory : Mandatory) (listed : Vec Citation)
    → r.mandatory.now ≡ mandatory → r.listed ≡ listed → r.steps.items ≡ [] → r.behind ≡ Nothing
    → r.saved ≡ 0 → (letters : List ℕ)
    → meant r letters
    ≡ lettered_steps (table_of (mandatory_hypotheses mandatory) listed.items) letters
started r mandatory listed h t s b k letters =
    ap (λ (xs : List Step). behind_items (map step_of xs)
    (left_meanings (table_of (mandatory_hypotheses r.mandatory.now) r.listed.items) r.saved
    (before_of r.behind) letters)) s
    ∙ behind-nothing (left_meanings (table_of (mandatory_hypotheses r.mandatory.now) r.listed.items)
    r.saved (before_of r.behind) letters)
    ∙ ap (λ (m : Mandatory). left_meanings (table_of (mandatory_hypotheses m) r.listed.items)
    r.saved (before_of r.behind) letters) h
    ∙ ap (λ (v : Vec Citation). left_meanings (table_of (mandatory_hypotheses mandatory) v.items)
    r.saved (before_of r.behind) letters) t
    ∙ ap (λ (n : ℕ). left_meanings (table_of (mandatory_hypotheses mandatory) listed.items) n
    (before_of r.behind) letters) k
    ∙ ap (λ (x : Behind). left_meanings (table_of (mandatory_hypotheses mandatory) listed.items) 0
    (before_of x) letters) b

pub compressed-is : (h : ScopeState) (hypotheses : List NumberedHypothesis)
    (tokens labels letters : List Token) (listed : List numbered.Citation)
    → has_token tokens (codes ")") ≡ true → labels ≡ before_close tokens
    → letters ≡ behind_close tokens → Some listed ≡ listed_citations h hypotheses labels
    → lettered_steps (given_by hypotheses ++ listed) (flat_map (λ t. t) letters)
    ≡ compressed_proof h hypotheses tokens
compressed-is h hypotheses tokens labels letters listed has before behind is =
    ap (λ (ls : List Token). lettered_steps (given_by hypotheses ++ listed) (flat_map (λ t. t) ls))
    behind
    ∙ ap (λ (o : Option (List numbered.Citation)).
    option_and_then (lettered hypotheses (flat_map (λ t. t) (behind_close tokens))) o)
    (is ∙ ap (listed_citations h hypotheses) before)
    ∙
    sym (ap (λ (b : Bool). if b
    then option_and_then (lettered hypotheses (flat_map (λ t. t) (behind_close tokens)))
    (listed_citations h hypotheses (before_close tokens)) else None) has)

pub compressed-none : (h : ScopeState) (hypotheses : List NumberedHypothesis)
    (tokens labels : List Token) → has_token tokens (codes ")") ≡ true
    → labels ≡ before_close tokens → None ≡ listed_citations h hypotheses labels
    → None ≡ compressed_proof h hypotheses tokens
compressed-none h hypotheses tokens labels has before none =
    ap (λ (o : Option (List numbered.Citation)).
    option_and_then (lettered hypotheses (flat_map (λ t. t) (behind_close tokens))) o)
    (none ∙ ap (listed_citations h hypotheses) before)
    ∙
    sym (ap (λ (b : Bool). if b
    then option_and_then (lettered hypotheses (flat_map (λ t. t) (behind_close tokens)))
    (listed_citations h hypotheses (before_close tokens)) else None) has)

-- one more label that cites something
behind-step : (done : List numbered.Citation) (c : numbered.Citation)
    (left : Option (List numbered.Citation))
    → behind_items done (with_step (Some c) left) ≡ behind_items (done ++ c ∷ []) left
behind-step done c None = refl
behind-step done c (Some others) =
    ap (λ (cs : List numbered.Citation). Some cs) (sym (append_assoc done (c ∷ []) others))

pub cited-next : (h : ScopeState) (bytes : List ℕ) (ts : List MmToken) (i : ℕ) (d : MmToken)
    (done : List numbered.Citation) (w : Token) (c : numbered.Citation) → i < length ts
    → w ≡ word_of bytes (get_or ts i d) → Some c ≡ cited_at h w
    → behind_items done (all_cited h (words_of bytes (drop i ts)))
    ≡ behind_items (done ++ c ∷ []) (all_cited h (words_of bytes (drop (i + 1) ts)))
cited-next h bytes ts i d done w c lt is cites =
    let next : suc i ≡ i + 1 = omega arith in
    ap (λ (us : List MmToken). behind_items done (all_cited h (words_of bytes us)))
    (drop-cons ts i d lt)
    ∙ ap (λ (o : Option numbered.Citation).
    behind_items done (with_step o (all_cited h (words_of bytes (drop (suc i) ts)))))
    (ap (cited_at h) (sym is) ∙ sym cites)
    ∙ behind-step done c (all_cited h (words_of bytes (drop (suc i) ts)))
    ∙ ap (λ (n : ℕ). behind_items (done ++ c ∷ []) (all_cited h (words_of bytes (drop n ts)))) next

pub map-map : {X Y Z : Type 0} (f : X → Y) (g : Y → Z) (xs : List X)
    → map g (map f xs) ≡ map (λ x. g (f x)) xs
map-map f g [] = refl
map-map f g (x ∷ xs) = ap (λ (zs : List _). g (f x) ∷ zs) (map-map f g xs)

-- the fault kind of the steps that a proof's text names, under equal scopes
pub kind-is : (h k : ScopeState) (conclusion : List ℕ)
    (named : ScopeState → Option (List (steps.Step numbered.Citation)))
    (ss : List (steps.Step numbered.Citation)) (f : Option ProofFault) (r : Option ℕ) → k ≡ h
    → named k ≡ Some ss → f ≡ steps_fault (place_of k) ss conclusion → r ≡ kind_of f
    → r ≡ proof_kind (place_of h) conclusion (named h)
kind-is h k conclusion named ss f r same is fault kind =
    kind
    ∙ ap kind_of fault
    ∙ sym (ap (proof_kind (place_of k) conclusion) is)
    ∙ ap (λ (x : ScopeState). proof_kind (place_of x) conclusion (named x)) same
