-- Values as arguments, one by one, and parameters that are in their arguments, from the last one
-- on.
use Rattle.std.proofs.Common.{◌≡◌, ℕ, ◌+◌, ◌<◌, ◌≤◌, zero, suc, List, [], ◌∷◌, ◌++◌, Option, Some}
use Rattle.std.proofs.Common.{option_map, refl, sym, ◌∙◌, ap, length, take, drop, get_or, map}
use Rattle.std.proofs.Common.{arith}
use Rattle.std.proofs.lemmas.List.{drop_more}
use Rattle.std.proofs.Math.Seq.{drop-length, take_all}
use Rattle.ml_pat.specs.Patterns.{Pattern, app, and, member, var, constant}
use Rattle.term_core.specs.Terms.{DomainValue}
use Rattle.term_core.specs.Patterns.{domain_value}
use Rattle.term_core.specs.Values.{scalar_value}
use Rattle.term_core.specs.RulePatterns.{plain_pattern, sort_numbers}
use Rattle.term_core.specs.PatternLists.{plain_patterns}
use Rattle.term_core.specs.declared.ids.SortId.{SortId}
use Rattle.term_core.specs.declared.values.Scalar.{Scalar}
use Rattle.term_core.specs.declared.rule_patterns.RulePat.{RulePat}
use Rattle.rule_core.specs.Sorting.{HasValue}
use Rattle.rule_core.specs.declared.signature.Signature.{Signature}
use Rattle.ml_image.specs.Tokens.{token_of_value, number_in_names}
use Rattle.ml_image.specs.Images.{both, image_of, applied, renamed, all_renamed}
use Rattle.ml_image.specs.Sentences.{sentence_image}
use Rattle.ml_image.specs.NamedSides.{left_sentence, of_child}
use Rattle.ml_image.specs.Premises.{meets}
use Rattle.ml_image.specs.PartNames.{left_renamed, names_renamed}
use Rattle.ml_image.specs.TrueFacts.{HaveValues, value_patterns}
use Rattle.ml_image.specs.Gained.{HasGained}
use Rattle.ml_image.proofs.ImageLaws.{gained-applied}
use Rattle.ml_image.proofs.NamingLaws.{gained-sentence}
use Rattle.ml_image.proofs.NamedLaws.{of_child-renamed}
use Rattle.rule_core.specs.NamedParts.{Name}

-- ---- values

-- one more value, if there are as many sorts as values
values-push : (sig : Signature) (names : List (List ℕ)) (ss : List ℕ) (vs : List DomainValue)
    (s : ℕ) (v : DomainValue) (head : Option Pattern) → length ss ≡ length vs
    → applied sig names head (value_patterns (ss ++ s ∷ []) (vs ++ v ∷ []))
    ≡ both app (applied sig names head (value_patterns ss vs))
    (image_of sig names (domain_value s v))
values-push sig names [] [] s v head same = refl
values-push sig names [] (w ∷ vs) s v head same = absurd (omega (arith, same))
values-push sig names (r ∷ ss) [] s v head same = absurd (omega (arith, same))
values-push sig names (r ∷ ss) (w ∷ vs) s v head same =
    values-push sig names ss vs s v (both app head (image_of sig names (domain_value r w)))
    (omega (arith, same))

taken : {A B : Type 0} (xs : List A) (ys : List B) (i : ℕ) → i < length xs → i < length ys
    → length (take i xs) ≡ length (take i ys)
taken [] ys i la lb = absurd (omega (arith, la))
taken (x ∷ xs) [] i la lb = absurd (omega (arith, lb))
taken (x ∷ xs) (y ∷ ys) zero la lb = refl
taken (x ∷ xs) (y ∷ ys) (suc i) la lb =
    ap suc (taken xs ys i (omega (arith, la)) (omega (arith, lb)))

pub have_as_many : (sig : Signature) (ss : List ℕ) (vs : List DomainValue) → HaveValues sig ss vs
    → length ss ≡ length vs
have_as_many sig [] [] h = refl
have_as_many sig [] (v ∷ vs) h = absurd h
have_as_many sig (s ∷ ss) [] h = absurd h
have_as_many sig (s ∷ ss) (v ∷ vs) h = ap suc (have_as_many sig ss vs h.1)

pub value_item : (sig : Signature) (ss : List SortId) (vs : List Scalar) (i : ℕ) (d : SortId)
    (e : Scalar) → HaveValues sig (sort_numbers ss) (map scalar_value vs) → i < length vs
    → HasValue sig (get_or ss i d).0 (scalar_value (get_or vs i e))
value_item sig [] [] i d e h low = absurd (omega (arith, low))
value_item sig [] (v ∷ vs) i d e h low = absurd h
value_item sig (s ∷ ss) [] i d e h low = absurd h
value_item sig (s ∷ ss) (v ∷ vs) zero d e h low = h.0
value_item sig (s ∷ ss) (v ∷ vs) (suc i) d e h low =
    value_item sig ss vs i d e h.1 (omega (arith, low))

pub many_sorts : (sig : Signature) (ss : List SortId) (vs : List Scalar)
    → HaveValues sig (sort_numbers ss) (map scalar_value vs) → length ss ≡ length vs
many_sorts sig [] [] h = refl
many_sorts sig [] (v ∷ vs) h = absurd h
many_sorts sig (s ∷ ss) [] h = absurd h
many_sorts sig (s ∷ ss) (v ∷ vs) h = ap suc (many_sorts sig ss vs h.1)

take_numbers : (ss : List SortId) (i : ℕ) (d : SortId) → i < length ss
    → take (i + 1) (sort_numbers ss) ≡ take i (sort_numbers ss) ++ (get_or ss i d).0 ∷ []
take_numbers [] i d low = absurd (omega (arith, low))
take_numbers (s ∷ ss) zero d low = refl
take_numbers (s ∷ ss) (suc i) d low =
    let further : suc i + 1 ≡ suc (i + 1) = omega arith in
    ap (λ (k : ℕ). take k (sort_numbers (s ∷ ss))) further
    ∙ ap (λ (ns : List ℕ). s.0 ∷ ns) (take_numbers ss i d (omega (arith, low)))

take_values : (vs : List Scalar) (i : ℕ) (e : Scalar) → i < length vs
    → take (i + 1) (map scalar_value vs)
    ≡ take i (map scalar_value vs) ++ scalar_value (get_or vs i e) ∷ []
take_values [] i e low = absurd (omega (arith, low))
take_values (v ∷ vs) zero e low = refl
take_values (v ∷ vs) (suc i) e low =
    let further : suc i + 1 ≡ suc (i + 1) = omega arith in
    ap (λ (k : ℕ). take k (map scalar_value (v ∷ vs))) further
    ∙ ap (λ (ns : List DomainValue). scalar_value v ∷ ns)
    (take_values vs i e (omega (arith, low)))

pub length-numbers : (ss : List SortId) → length (sort_numbers ss) ≡ length ss
length-numbers [] = refl
length-numbers (s ∷ ss) = ap suc (length-numbers ss)

length-values : (vs : List Scalar) → length (map scalar_value vs) ≡ length vs
length-values [] = refl
length-values (v ∷ vs) = ap suc (length-values vs)

pub values-next : (sig : Signature) (old new : List (List ℕ)) (head : Pattern) (ss : List SortId)
    (vs : List Scalar) (i : ℕ) (d : SortId) (e : Scalar) (made : Pattern) (n : ℕ)
    → HasGained sig old new → i < length ss → i < length vs
    → applied sig old (Some head)
    (value_patterns (take i (sort_numbers ss)) (take i (map scalar_value vs))) ≡ Some made
    → number_in_names new (token_of_value sig (get_or ss i d).0 (scalar_value (get_or vs i e)))
    ≡ Some n
    → applied sig new (Some head)
    (value_patterns (take (i + 1) (sort_numbers ss)) (take (i + 1) (map scalar_value vs)))
    ≡ Some (app made (constant n))
values-next sig old new head ss vs i d e made n gained ls lv before number =
    let kept : applied sig new (Some head)
    (value_patterns (take i (sort_numbers ss)) (take i (map scalar_value vs))) ≡ Some made =
    gained-applied sig old new
    (value_patterns (take i (sort_numbers ss)) (take i (map scalar_value vs))) (Some head)
    (Some head) gained (λ q h. h) made before in
    let s : ℕ = (get_or ss i d).0 in
    let v : DomainValue = scalar_value (get_or vs i e) in
    let as_many : length (take i (sort_numbers ss)) ≡ length (take i (map scalar_value vs)) =
    taken (sort_numbers ss) (map scalar_value vs) i (omega (arith, ls, length-numbers ss))
    (omega (arith, lv, length-values vs)) in
    ap (λ (ns : List ℕ).
    applied sig new (Some head) (value_patterns ns (take (i + 1) (map scalar_value vs))))
    (take_numbers ss i d ls)
    ∙ ap (λ (ws : List DomainValue). applied sig new (Some head)
    (value_patterns (take i (sort_numbers ss) ++ (get_or ss i d).0 ∷ []) ws))
    (take_values vs i e lv)
    ∙ values-push sig new (take i (sort_numbers ss)) (take i (map scalar_value vs))
    (get_or ss i d).0 (scalar_value (get_or vs i e)) (Some head) as_many
    ∙ ap (λ (o : Option Pattern). both app o
    (image_of sig new (domain_value (get_or ss i d).0 (scalar_value (get_or vs i e))))) kept
    ∙ ap (λ (o : Option ℕ). both app (Some made) (option_map constant o)) number

take_past : {A : Type 0} (n : ℕ) (xs : List A) → length xs ≤ n → take n xs ≡ xs
take_past n xs low = take_all n xs low

pub taken_all : (sig : Signature) (names : List (List ℕ)) (head : Pattern) (ss : List SortId)
    (vs : List Scalar) (i : ℕ) (made : Pattern) → length ss ≡ length vs → length vs ≤ i
    → applied sig names (Some head)
    (value_patterns (take i (sort_numbers ss)) (take i (map scalar_value vs))) ≡ Some made
    → applied sig names (Some head) (value_patterns (sort_numbers ss) (map scalar_value vs))
    ≡ Some made
taken_all sig names head ss vs i made same low before =
    ap (λ (ns : List ℕ). applied sig names (Some head) (value_patterns ns (map scalar_value vs)))
    (sym (take_past i (sort_numbers ss) (omega (arith, same, low, length-numbers ss))))
    ∙ ap (λ (ws : List DomainValue).
    applied sig names (Some head) (value_patterns (take i (sort_numbers ss)) ws))
    (sym (take_past i (map scalar_value vs) (omega (arith, low, length-values vs))))
    ∙ before

pub one_default : (vs : List Scalar) (i : ℕ) (d e : Scalar) → i < length vs
    → get_or vs i d ≡ get_or vs i e
one_default [] i d e low = absurd (omega (arith, low))
one_default (v ∷ vs) zero d e low = refl
one_default (v ∷ vs) (suc i) d e low = one_default vs i d e (omega (arith, low))

-- ---- parameters

pub meets-none : (k : ℕ) (g : ℕ → ℕ) (names : List Name) (args : List RulePat)
    → meets names k (all_renamed g (plain_patterns (drop (length args) args)))
    ≡ meets names k (all_renamed g (plain_patterns []))
meets-none k g names args =
    ap (λ (ps : List RulePat). meets names k (all_renamed g (plain_patterns ps)))
    (drop-length args)

pub meets-next : (sig : Signature) (old new : List (List ℕ)) (g : ℕ → ℕ) (names : List Name)
    (args : List RulePat) (i j : ℕ) (a : RulePat) (made p : Pattern) → i ≡ j + 1
    → j < length args → a ≡ get_or args j a → HasGained sig old new
    → sentence_image sig old
    (meets (names_renamed g names) i (all_renamed g (plain_patterns (drop i args))))
    ≡ Some made
    → sentence_image sig new (left_renamed g (of_child j names) (plain_pattern a)) ≡ Some p
    → sentence_image sig new
    (meets (names_renamed g names) j (all_renamed g (plain_patterns (drop j args))))
    ≡ Some (and (member (var j) p) made)
meets-next sig old new g names args i j a made p is low at gained before argument =
    let ns : List Name = names_renamed g names in
    let front : drop j args ≡ a ∷ drop (j + 1) args =
    drop_more args j a low ∙ ap (λ (b : RulePat). b ∷ drop (j + 1) args) (sym at) in
    let below : sentence_image sig new
    (meets ns (j + 1) (all_renamed g (plain_patterns (drop (j + 1) args)))) ≡ Some made =
    ap (λ (k : ℕ).
    sentence_image sig new (meets ns k (all_renamed g (plain_patterns (drop k args)))))
    (sym is)
    ∙ gained-sentence sig old new (meets ns i (all_renamed g (plain_patterns (drop i args))))
    gained made before in
    let argument' : sentence_image sig new
    (left_sentence (of_child j ns) (renamed g (plain_pattern a))) ≡ Some p =
    ap (λ (ms : List Name).
    sentence_image sig new (left_sentence ms (renamed g (plain_pattern a))))
    (of_child-renamed j g names) ∙ argument in
    ap (λ (bs : List RulePat).
    sentence_image sig new (meets ns j (all_renamed g (plain_patterns bs)))) front
    ∙ ap (λ (o : Option Pattern). both and (both member (Some (var j)) o) (sentence_image sig new
    (meets ns (j + 1) (all_renamed g (plain_patterns (drop (j + 1) args)))))) argument'
    ∙ ap (λ (o : Option Pattern). both and (Some (member (var j) p)) o) below
