-- What is decided of a pattern is decided of the tokens that say it.
use Rattle.std.proofs.Common.{◌≡◌, ◌⊎◌, inl, inr, List, [], ◌∷◌, ◌++◌, Bool, true, false, Result, Ok, Err}
use Rattle.std.proofs.Common.{Some, refl, sym, ap, ◌∙◌, subst, Option, None, arith, get_or, Bor, not}
use Rattle.std.proofs.Common.{◌≤◌, ◌-◌, length, MatchOption, take}
use Rattle.std.specs.Prelude.{IsTrue, ◌↔◌, IfOk, Contains, codes, bytes_eq, drop}
use Rattle.std.proofs.lemmas.List.{take_all}
use Rattle.std.proofs.lemmas.Bool.{false≢true}
use Rattle.std.proofs.lemmas.Slice.Eq.{bytes_eq-Decides}
use Rattle.mm_text.specs.Bytes.{Token}
use Rattle.ml_pat.specs.Named.{AreDistinct}
use Rattle.ml_pat.specs.Patterns.{Pattern}
use Rattle.rule_core.specs.Theories.{RewriteTheory}
use Rattle.ml_image.specs.Assumed.{IsAssumed}
use Rattle.ml_image.specs.Gained.{HasGained}
use Rattle.ml_image.specs.OwnAxioms.{IsOwnAxiom, of_rule, of_equation, total, apart, free, subsort}
use Rattle.ml_image.specs.OwnAxioms.{collapse}
use Rattle.ml_image.specs.TrueFacts.{IsTrueFact}
use Rattle.ml_image.specs.Sentences.{Sentence, sentence_image, IsImageOf}
use Rattle.ml_image.proofs.ImageLaws.{some_same}
use Rattle.ml_image.proofs.NamingLaws.{sentence-keeps}
use Rattle.mm_proof.specs.Tokens.{pattern_tokens}
use Rattle.mm_justify.specs.Stating.{holds_text}
use Rattle.pattern_reader.specs.Readings.{AreKept, IsReading, SayNoPattern, texts}
use Rattle.pattern_reader.specs.Words.{pattern_words}
use Rattle.pattern_reader.proofs.Keeping.{said-kept}
use Rattle.pattern_reader.proofs.Renumbering.{readings_agree}
use Rattle.pattern_reader.proofs.WordLaws.{reading-says, says-reading}
use Rattle.assumed_texts.specs.AssumedTexts.{SaysAssumed}
use Rattle.assumed_texts.specs.Deciding.{Decides}
use Rattle.assumed_texts.specs.Kinds.{IsWritten, IsStructural}
use Rattle.assumed_texts.specs.Listing.{Lists}
use Rattle.assumed_texts.proofs.Deciding.{image-gained}
use Rattle.assumed_texts.proofs.Reading.{image-over, image-read}
use Rattle.assumed_texts.proofs.SmallVariables.{AssumesSmall}

-- ---- own axioms

own-parts : (theory : RewriteTheory) (s : Sentence) → IsOwnAxiom theory s
    → IsWritten theory s ⊎ IsStructural theory.sig s
own-parts theory s (of_rule r listed says) = inl (inl (r, listed, says))
own-parts theory s (of_equation f e for says) = inl (inr (f, e, for, says))
own-parts theory s (total f says) = inr (inl (inl (f, says)))
own-parts theory s (apart f g says) = inr (inl (inr (inl (f, g, says))))
own-parts theory s (free f says) = inr (inl (inr (inr (f, says))))
own-parts theory s (subsort a b says) = inr (inr (inl (a, b, says)))
own-parts theory s (collapse a b c says) = inr (inr (inr (a, b, c, says)))

pub written-own : (theory : RewriteTheory) (s : Sentence) → IsWritten theory s → IsOwnAxiom theory s
written-own theory s (inl (r, listed, says)) = of_rule r listed says
written-own theory s (inr (f, e, for, says)) = of_equation f e for says

structural-own : (theory : RewriteTheory) (s : Sentence) → IsStructural theory.sig s
    → IsOwnAxiom theory s
structural-own theory s (inl (inl (f, says))) = total f says
structural-own theory s (inl (inr (inl (f, g, says)))) = apart f g says
structural-own theory s (inl (inr (inr (f, says)))) = free f says
structural-own theory s (inr (inl (a, b, says))) = subsort a b says
structural-own theory s (inr (inr (a, b, c, says))) = collapse a b c says

-- ---- what is assumed

pub written-yes : (theory : RewriteTheory) (names : List Token) (images : List Pattern)
    (p : Pattern) → Lists theory names (IsWritten theory) images → Contains images p
    → Decides theory.sig names names (IsAssumed theory) p true
written-yes theory names images p lists has = record {
  sound = λ t. go (lists.sound p has);
  complete = λ i. refl;
}
  where
    go : IsImageOf theory.sig names (IsWritten theory) p
        → IsImageOf theory.sig names (IsAssumed theory) p
    go (s, h, is) = (s, inl (written-own theory s h), is)

pub structure-yes : (theory : RewriteTheory) (old new : List Token) (p : Pattern) (b : Bool)
    → Decides theory.sig old new (IsStructural theory.sig) p b → b ≡ true
    → Decides theory.sig old new (IsAssumed theory) p true
structure-yes theory old new p b d is = record {
  sound = λ t. go (d.sound is);
  complete = λ i. refl;
}
  where
    go : IsImageOf theory.sig new (IsStructural theory.sig) p
        → IsImageOf theory.sig new (IsAssumed theory) p
    go (s, h, e) = (s, inl (structural-own theory s h), e)

fact-decides : (theory : RewriteTheory) (old new : List Token) (images : List Pattern)
    (p : Pattern) (a b : Bool) → Lists theory old (IsWritten theory) images
    → (Contains images p → ⊥) → Decides theory.sig old new (IsStructural theory.sig) p a
    → a ≡ false → HasGained theory.sig old new
    → IsTrue b ↔ IsImageOf theory.sig new (IsTrueFact theory.sig) p
    → Decides theory.sig old new (IsAssumed theory) p b
fact-decides theory old new images p a b lists none d failed gained fact = record {
  sound = λ t. go (fact.0 t);
  complete = λ i. back i;
}
  where
    go : IsImageOf theory.sig new (IsTrueFact theory.sig) p
        → IsImageOf theory.sig new (IsAssumed theory) p
    go (s, h, is) = (s, inr h, is)

    found : (s : Sentence) → sentence_image theory.sig old s ≡ Some p → IsWritten theory s → ⊥
    found s is h =
        let w : (q : Pattern) × Contains images q × (sentence_image theory.sig old s ≡ Some q) =
        lists.complete s h in
        none (subst (Contains images) (some_same w.0 p (sym w.2 ∙ is)) w.1)

    own : (s : Sentence) → sentence_image theory.sig old s ≡ Some p
        → IsWritten theory s ⊎ IsStructural theory.sig s → IsTrue b
    own s is (inl h) = absurd (found s is h)
    own s is (inr h) = absurd (false≢true (sym failed ∙ d.complete (s, h, is)))

    back : IsImageOf theory.sig old (IsAssumed theory) p → IsTrue b
    back (s, inl h, is) = own s is (own-parts theory s h)
    back (s, inr h, is) =
        fact.1 (image-gained theory.sig old new (IsTrueFact theory.sig) p gained (s, h, is))

pub fact-decided : {E : Type 0} (theory : RewriteTheory) (old new : List Token)
    (images : List Pattern) (p : Pattern) (a : Bool) (r : Result Bool E)
    → Lists theory old (IsWritten theory) images
    → (Contains images p → ⊥) → Decides theory.sig old new (IsStructural theory.sig) p a
    → a ≡ false → HasGained theory.sig old new
    → IfOk r (λ (b : Bool). IsTrue b ↔ IsImageOf theory.sig new (IsTrueFact theory.sig) p)
    → IfOk r (Decides theory.sig old new (IsAssumed theory) p)
fact-decided theory old new images p a (Err e) lists none d failed gained fact = tt
fact-decided theory old new images p a (Ok b) lists none d failed gained fact =
    fact-decides theory old new images p a b lists none d failed gained fact

-- ---- what tokens say

pub reading-kept : (old new tokens : List Token) (p : Pattern) (more : List Token) → new ≡ old ++ more
    → IsReading old tokens p → IsReading new tokens p
reading-kept old new tokens p more is read =
    subst (λ (ns : List Token). IsReading ns tokens p) (sym is)
    (says-reading (old ++ more) tokens p
    (said-kept old more tokens (pattern_words p) (reading-says old tokens p read)))

says-yes : (theory : RewriteTheory) (old new rest : List Token) (p : Pattern)
    → IsReading old rest p → HasGained theory.sig old new
    → IsImageOf theory.sig new (IsAssumed theory) p → SaysAssumed theory (codes "|-" ∷ rest)
says-yes theory old new rest p read gained (s, h, is) = record {
  names = new;
  sentence = s;
  image = p;
  assumed = h;
  is_image = is;
  says = ap (λ (ts : List Token). codes "|-" ∷ ts)
      (reading-kept old new rest p gained.gained gained.all read).text;
}

behind : (xs ys : List Token) (x y : Token) → x ∷ xs ≡ y ∷ ys → xs ≡ ys
behind xs ys x y h = cc

says-back : (theory : RewriteTheory) (old rest : List Token) (p : Pattern) → AssumesSmall theory
    → AreDistinct old → IsReading old rest p → SaysAssumed theory (codes "|-" ∷ rest)
    → IsImageOf theory.sig old (IsAssumed theory) p
says-back theory old rest p small distinct read says = (
  says.sentence,
  says.assumed,
  image-over theory.sig old says.names rest says.sentence p says.image readings_agree distinct read
      says.is_image (small says.sentence says.names says.image says.assumed says.is_image)
      (behind rest (pattern_tokens says.names says.image) (codes "|-") (codes "|-") says.says),
)

pub decided-says : {E : Type 0} (theory : RewriteTheory) (old new rest tokens : List Token)
    (p : Pattern) (r : Result Bool E) → AssumesSmall theory → AreDistinct old
    → IsReading old rest p → HasGained theory.sig old new → tokens ≡ codes "|-" ∷ rest
    → IfOk r (Decides theory.sig old new (IsAssumed theory) p)
    → IfOk r (λ (b : Bool). IsTrue b ↔ SaysAssumed theory tokens)
decided-says theory old new rest tokens p (Err e) small distinct read gained is d = tt
decided-says theory old new rest tokens p (Ok b) small distinct read gained is d =
    subst (λ (ts : List Token). IsTrue b ↔ SaysAssumed theory ts) (sym is) (
      λ t. says-yes theory old new rest p read gained (d.sound t),
      λ says. d.complete (says-back theory old rest p small distinct read says),
    )

-- ---- what says nothing

pub unread-says : (theory : RewriteTheory) (rest tokens : List Token) → AssumesSmall theory
    → SayNoPattern rest → tokens ≡ codes "|-" ∷ rest → SaysAssumed theory tokens → ⊥
unread-says theory rest tokens small none is says =
    none says.names says.image (image-read theory.sig says.names rest says.sentence says.image
    says.is_image (small says.sentence says.names says.image says.assumed says.is_image)
    (behind rest (pattern_tokens says.names says.image) (codes "|-") (codes "|-")
    (sym is ∙ says.says)))

pub empty-says : (theory : RewriteTheory) (tokens : List Token) → tokens ≡ []
    → SaysAssumed theory tokens → ⊥
empty-says theory tokens is says =
    let z : [] ≡ holds_text says.names says.image = sym is ∙ says.says in (let f : ⊥ = cc in f)

pub other-says : (theory : RewriteTheory) (tokens rest : List Token) (t : Token)
    → tokens ≡ t ∷ rest → (t ≡ codes "|-" → ⊥) → SaysAssumed theory tokens → ⊥
other-says theory tokens rest t is other says =
    other (first t (codes "|-") rest (pattern_tokens says.names says.image) (sym is ∙ says.says))
  where
    first : (x y : Token) (xs ys : List Token) → x ∷ xs ≡ y ∷ ys → x ≡ y
    first x y xs ys h = cc

-- ---- the tokens behind the turnstile

was-same : (b : Bool) → not b ≡ false → b ≡ true
was-same true h = refl
was-same false h = sym h

-- all but the first, as a pattern of a slice has them
abbrev pub behind_first : List (Bor Token) → List (Bor Token)
behind_first tokens = take (length tokens - 1) (drop 1 tokens)

pub begins : (tokens : List (Bor Token)) (d : Bor Token) (mark : Token) (b : Bool)
    → 1 ≤ length tokens → mark ≡ codes "|-"
    → b ≡ not (bytes_eq (get_or tokens 0 d).now mark) → b ≡ false
    → texts tokens ≡ codes "|-" ∷ texts (behind_first tokens)
begins [] d mark b some is tested same = absurd (omega (arith, some))
begins (t ∷ tokens) d mark b some is tested same =
    ap (λ (x : Token). x ∷ texts tokens)
    ((bytes_eq-Decides t.now mark).0 (was-same (bytes_eq t.now mark) (sym tested ∙ same)) ∙ is)
    ∙ ap (λ (ts : List (Bor Token)). codes "|-" ∷ texts ts)
    (sym (take_all (length (t ∷ tokens) - 1) tokens (omega arith)))

pub found-read : (N : Type 0) (R : Pattern → Type 0) (o : Option Pattern) (p : Pattern)
    → o ≡ Some p → MatchOption o N R → R p
found-read N R o p is h = subst (λ (q : Option Pattern). MatchOption q N R) is h

pub none-read : (N : Type 0) (R : Pattern → Type 0) (o : Option Pattern) → o ≡ None
    → MatchOption o N R → N
none-read N R o is h = subst (λ (q : Option Pattern). MatchOption q N R) is h

pub says-no : (theory : RewriteTheory) (tokens : List Token)
    → (SaysAssumed theory tokens → ⊥) → IsTrue false ↔ SaysAssumed theory tokens
says-no theory tokens none = (λ t. absurd (false≢true t), λ says. absurd (none says))

-- ---- the list stays when names are added

pub lists-kept : (theory : RewriteTheory) (old new : List Token) (P : Sentence → Type 0)
    (images : List Pattern) → AreKept old new → Lists theory old P images
    → Lists theory new P images
lists-kept theory old new P images kept lists = record {
  sound = λ p has. go p (lists.sound p has);
  complete = λ s h. found s (lists.complete s h);
}
  where
    stays : (s : Sentence) (p : Pattern) → sentence_image theory.sig old s ≡ Some p
        → sentence_image theory.sig new s ≡ Some p
    stays s p is =
        ap (λ (ns : List Token). sentence_image theory.sig ns s) kept.all
        ∙ sentence-keeps theory.sig old kept.added s p is

    go : (p : Pattern) → IsImageOf theory.sig old (IsWritten theory) p
        → IsImageOf theory.sig new (IsWritten theory) p
    go p (s, h, is) = (s, h, stays s p is)

    found : (s : Sentence)
        → (p : Pattern) × Contains images p × (sentence_image theory.sig old s ≡ Some p)
        → (p : Pattern) × Contains images p × (sentence_image theory.sig new s ≡ Some p)
    found s (p, has, is) = (p, has, stays s p is)
