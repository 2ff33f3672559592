-- The names in folds, and in lists of patterns.
use Rattle.std.proofs.Common.{◌≡◌, ◌<◌, ◌≤◌, ℕ, zero, suc, ◌+◌, ◌-◌, Bool, true, false, List, []}
use Rattle.std.proofs.Common.{◌∷◌, ◌++◌, length, map, take, drop, get_or, Option, Some, None, Vec}
use Rattle.std.proofs.Common.{Global, append_assoc, append-nil, length-drop, refl, sym, ◌∙◌, ap}
use Rattle.std.proofs.Common.{subst, arith, ◌⊎◌, inl, inr, option_map}
use Rattle.std.proofs.lemmas.List.{drop_all, length-append}
use Rattle.kore_text.specs.Trees.{SortTree}
use Rattle.kore_text.specs.declared.names.Op.{Op}
use Rattle.kore_ast.specs.declared.tree.Sort.{Sort}
use Rattle.kore_ast.specs.declared.tree.Pat.{Pat}
use Rattle.kore_ast.specs.declared.tree.PatForm.TheVariants as form
use Rattle.kore_ast.specs.Plain.{plain_sort, pattern_tree}
use Rattle.rule_core.specs.NamedParts.{Name}
use Rattle.rule_core.specs.declared.signature.Signature.{Signature}
use Rattle.kore_check.specs.Folds.{Unfolded, Unfoldeds, no_more, and_more, both_of, other_form}
use Rattle.kore_check.specs.Folds.{named_variable, written_value, applied_symbol, standing_at}
use Rattle.kore_check.specs.Folds.{applied_to_two, folded_left, folded_right, fold_of, count}
use Rattle.kore_check.specs.Folds.{unfolded, inner_fold, only_of, connective_of, connective_fold}
use Rattle.kore_check.specs.PartNames.{names_in, names_in_all, name_at, number_of_variable}
use Rattle.kore_check.specs.Variables.{variable_of}
use Rattle.kore_check.proofs.Applications.{reads, count-reads}
use Rattle.kore_check.proofs.Connectives.{IsConnective, connective_case, connective_folded}
use Rattle.kore_check.proofs.FoldChecks.{application_folded, only_other, fold_short}
use Rattle.std.specs.Prelude.{Result, Ok, Err, OnOk}
use Rattle.kore_check.proofs.Items.{drop-item}

-- ---- variables

standing_variable : (at : ℕ) (u : Unfolded) → variable_of u ≡ variable_of (standing_at at u)
standing_variable at (named_variable there n s) = refl
standing_variable at (written_value there s text byte) = refl
standing_variable at (applied_symbol there byte n ss us) = refl
standing_variable at (both_of there s u w) = refl
standing_variable at (other_form there) = refl

left_variable : (byte : ℕ) (name : List ℕ) (ss : List SortTree) (u v : Unfolded) (us : Unfoldeds)
    → variable_of (folded_left byte name ss (applied_to_two byte name ss u v) us) ≡ None
left_variable byte name ss u v no_more = refl
left_variable byte name ss u v (and_more w us) =
    left_variable byte name ss (applied_to_two byte name ss u v) w us

fold_variable : (left : Bool) (byte at : ℕ) (name : List ℕ) (ss : List SortTree) (args : List Pat)
    → variable_of (only_of at (reads args)) ≡ variable_of (fold_of left byte name ss (reads args))
fold_variable left byte at name ss [] = refl
fold_variable true byte at name ss (p ∷ []) = refl
fold_variable false byte at name ss (p ∷ []) = refl
fold_variable true byte at name ss (p ∷ (q ∷ args)) =
    sym (left_variable byte name ss (unfolded (pattern_tree p)) (unfolded (pattern_tree q))
    (reads args))
fold_variable false byte at name ss (p ∷ (q ∷ args)) = refl

pub application_variable : (left : Bool) (p : Pat) (n : List ℕ) (ss : Vec Sort Global)
    (ps : Vec Pat Global) → p.form ≡ form.App n ss ps
    → variable_of (only_of p.at (reads ps.items)) ≡ variable_of (inner_fold left (pattern_tree p))
application_variable left p n ss ps h =
    fold_variable left p.at p.at n (map plain_sort ss.items) ps.items
    ∙ sym (ap variable_of (application_folded left p n ss ps h))

no_variable : (at : ℕ) (o : Op) (ss : List SortTree) (us : Unfoldeds)
    → None ≡ variable_of (connective_of at o ss us)
no_variable at o ss us = by_case (connective_case at o ss us) where
  by_case : IsConnective at o ss us → None ≡ variable_of (connective_of at o ss us)
  by_case (inl both) = sym (ap variable_of both.4)
  by_case (inr other) = sym (ap variable_of other)

folded_variable : (at : ℕ) (o : Op) (ss : List SortTree) (args : List Pat)
    → variable_of (only_of at (reads args)) ≡ variable_of (connective_fold at o ss (reads args))
folded_variable at o ss [] = no_variable at o ss no_more
folded_variable at o ss (p ∷ []) = refl
folded_variable at o ss (p ∷ (q ∷ args)) = no_variable at o ss (reads (p ∷ (q ∷ args)))

pub connective_variable : (left : Bool) (p : Pat) (o : Op) (ss : Vec Sort Global)
    (ps : Vec Pat Global) → p.form ≡ form.Built o ss ps
    → variable_of (only_of p.at (reads ps.items)) ≡ variable_of (inner_fold left (pattern_tree p))
connective_variable left p o ss ps h =
    folded_variable p.at o (map plain_sort ss.items) ps.items
    ∙ sym (ap variable_of (connective_folded left p o ss ps h))

pub folded_is_variable : (at : ℕ) (u : Unfolded) → variable_of u ≡ variable_of (standing_at at u)
folded_is_variable at u = standing_variable at u

-- ---- ways

-- the way to the first argument of a fold from the left
abbrev pub zeros : ℕ → List ℕ
zeros zero = []
zeros (suc n) = zeros n ++ 0 ∷ []

take-front : (w : List ℕ) (ys : List ℕ) → take (length w) (w ++ ys) ≡ w
take-front [] ys = refl
take-front (x ∷ w) ys = ap (λ (zs : List ℕ). x ∷ zs) (take-front w ys)

-- a way without the step that was added last
pub step_back : (w v : List ℕ) (n k : ℕ) → v ≡ w ++ n ∷ [] → k ≡ length v → take (k - 1) v ≡ w
step_back w v n k is long =
    let all : length (w ++ n ∷ []) ≡ length w + 1 = length-append w (n ∷ []) in
    let same : length v ≡ length (w ++ n ∷ []) = ap (λ (zs : List ℕ). length zs) is in
    ap (take (k - 1)) is
    ∙ ap (λ (m : ℕ). take m (w ++ n ∷ [])) (omega (arith, long, all, same))
    ∙ take-front w (n ∷ [])

pub back_to : (w v behind : List ℕ) (k : ℕ) → v ≡ w ++ behind → k ≡ length w → take k v ≡ w
back_to w v behind k is long =
    ap (take k) is ∙ ap (λ (m : ℕ). take m (w ++ behind)) long ∙ take-front w behind

pub more_zeros : (base way new : List ℕ) (k : ℕ) → 1 ≤ k → way ≡ base ++ zeros (k - 1)
    → new ≡ way ++ 0 ∷ [] → new ≡ base ++ zeros (k + 1 - 1)
more_zeros base way new k some is made =
    made ∙ ap (λ (zs : List ℕ). zs ++ 0 ∷ []) is ∙ append_assoc base (zeros (k - 1)) (0 ∷ [])
    ∙ ap (λ (n : ℕ). base ++ zeros n) (let next : suc (k - 1) ≡ k + 1 - 1 = omega (arith, some) in
    next)

pub fewer_zeros : (base way new : List ℕ) (n i k : ℕ) → i < n → way ≡ base ++ zeros (n - i)
    → k ≡ length way → new ≡ take (k - 1) way → new ≡ base ++ zeros (n - (i + 1))
fewer_zeros base way new n i k lt is long made =
    let next : n - i ≡ suc (n - (i + 1)) = omega (arith, lt) in
    made
    ∙ step_back (base ++ zeros (n - (i + 1))) way 0 k (is
    ∙ ap (λ (m : ℕ). base ++ zeros m) next
    ∙ sym (append_assoc base (zeros (n - (i + 1))) (0 ∷ []))) long

-- ---- lists

pub all_more : (sig : Signature) (vars : List (List ℕ × ℕ)) (way : List ℕ) (args : List Pat)
    (i : ℕ) (arg : Pat) (before after whole : List Name) → i < length args
    → arg ≡ get_or args i arg
    → after ≡ before ++ names_in sig vars (way ++ i ∷ []) (unfolded (pattern_tree arg))
    → before ++ names_in_all sig vars way i (reads (drop i args)) ≡ whole
    → after ++ names_in_all sig vars way (i + 1) (reads (drop (i + 1) args)) ≡ whole
all_more sig vars way args i arg before after whole lt item made known =
    let own : List Name = names_in sig vars (way ++ i ∷ []) (unfolded (pattern_tree arg)) in
    let rest : List Name = names_in_all sig vars way (i + 1) (reads (drop (i + 1) args)) in
    ap (λ (ns : List Name). ns ++ rest) made ∙ append_assoc before own rest
    ∙ ap (λ (ps : List Pat). before ++ names_in_all sig vars way i (reads ps))
    (sym (drop-item args i arg lt item)) ∙ known

pub all_end : (sig : Signature) (vars : List (List ℕ × ℕ)) (way : List ℕ) (args : List Pat) (i : ℕ)
    (names whole : List Name) → length args ≤ i
    → names ++ names_in_all sig vars way i (reads (drop i args)) ≡ whole → names ≡ whole
all_end sig vars way args i names whole le known =
    sym (append-nil names)
    ∙ ap (λ (ps : List Pat). names ++ names_in_all sig vars way i (reads ps))
    (sym (drop_all i args le)) ∙ known

-- ---- folds from the left

-- the names in the later arguments of a fold from the left
abbrev pub left_names : Signature → List (List ℕ × ℕ) → List ℕ → Unfoldeds → List Name
left_names sig vars way no_more = []
left_names sig vars way (and_more q qs) =
    names_in sig vars ((way ++ zeros (count qs)) ++ 1 ∷ []) q ++ left_names sig vars way qs

left_read : (sig : Signature) (vars : List (List ℕ × ℕ)) (way : List ℕ) (byte : ℕ) (name : List ℕ)
    (ss : List SortTree) (u : Unfolded) (qs : Unfoldeds)
    → names_in sig vars (way ++ zeros (count qs)) u ++ left_names sig vars way qs
    ≡ names_in sig vars way (folded_left byte name ss u qs)
left_read sig vars way byte name ss u no_more =
    append-nil (names_in sig vars (way ++ []) u)
    ∙ ap (λ (w : List ℕ). names_in sig vars w u) (append-nil way)
left_read sig vars way byte name ss u (and_more v qs) =
    let z : List ℕ = way ++ zeros (count qs) in
    let own : List Name = names_in sig vars (z ++ 1 ∷ []) v in
    let rest : List Name = left_names sig vars way qs in
    let next : count qs + 1 ≡ suc (count qs) = omega arith in
    ap (λ (n : ℕ). names_in sig vars (way ++ zeros n) u ++ (own ++ rest)) next
    ∙ ap (λ (w : List ℕ). names_in sig vars w u ++ (own ++ rest))
    (sym (append_assoc way (zeros (count qs)) (0 ∷ [])))
    ∙ sym (append_assoc (names_in sig vars (z ++ 0 ∷ []) u) own rest)
    ∙ ap (λ (ns : List Name). (names_in sig vars (z ++ 0 ∷ []) u ++ ns) ++ rest)
    (sym (append-nil own))
    ∙ left_read sig vars way byte name ss (applied_to_two byte name ss u v) qs

count_drop : (args : List Pat) (i : ℕ) → count (reads (drop i args)) ≡ length args - i
count_drop args i =
    count-reads (drop i args) ∙ (let long = length-drop i args in omega (arith, long))

pub left_begun : (sig : Signature) (vars : List (List ℕ × ℕ)) (way : List ℕ) (args : List Pat)
    (arg : Pat) (place : List ℕ) (before after : List Name) → 2 ≤ length args
    → arg ≡ get_or args 0 arg → place ≡ way ++ zeros (length args - 1)
    → after ≡ before ++ names_in sig vars place (unfolded (pattern_tree arg))
    → (byte : ℕ) (name : List ℕ) (ss : List SortTree)
    → after ++ left_names sig vars way (reads (drop 1 args))
    ≡ before ++ names_in sig vars way (fold_of true byte name ss (reads args))
left_begun sig vars way [] arg place before after many item at made byte name ss =
    absurd (omega (arith, many))
left_begun sig vars way (p ∷ args) arg place before after many item at made byte name ss =
    let rest : List Name = left_names sig vars way (reads args) in
    let counted : length (p ∷ args) - 1 ≡ count (reads args) =
    (let long = count-reads args in omega (arith, long)) in
    ap (λ (ns : List Name). ns ++ rest) made
    ∙ append_assoc before (names_in sig vars place (unfolded (pattern_tree arg))) rest
    ∙ ap (λ (w : List ℕ).
    before ++ (names_in sig vars w (unfolded (pattern_tree arg)) ++ rest))
    (at ∙ ap (λ (n : ℕ). way ++ zeros n) counted)
    ∙ ap (λ (q : Pat). before
    ++ (names_in sig vars (way ++ zeros (count (reads args))) (unfolded (pattern_tree q))
    ++ rest)) item
    ∙ ap (λ (ns : List Name). before ++ ns)
    (left_read sig vars way byte name ss (unfolded (pattern_tree p)) (reads args))

pub left_goes_on : (sig : Signature) (vars : List (List ℕ × ℕ)) (way : List ℕ) (args : List Pat)
    (i : ℕ) (arg : Pat) (place : List ℕ) (before after whole : List Name) → i < length args
    → arg ≡ get_or args i arg → place ≡ way ++ zeros (length args - (i + 1))
    → after ≡ before ++ names_in sig vars (place ++ 1 ∷ []) (unfolded (pattern_tree arg))
    → before ++ left_names sig vars way (reads (drop i args)) ≡ whole
    → after ++ left_names sig vars way (reads (drop (i + 1) args)) ≡ whole
left_goes_on sig vars way args i arg place before after whole lt item at made known =
    let rest : List Name = left_names sig vars way (reads (drop (i + 1) args)) in
    ap (λ (ns : List Name). ns ++ rest) made
    ∙ append_assoc before (names_in sig vars (place ++ 1 ∷ []) (unfolded (pattern_tree arg))) rest
    ∙ ap (λ (w : List ℕ).
    before ++ (names_in sig vars (w ++ 1 ∷ []) (unfolded (pattern_tree arg)) ++ rest))
    (at ∙ ap (λ (n : ℕ). way ++ zeros n) (sym (count_drop args (i + 1))))
    ∙ ap (λ (ps : List Pat). before ++ left_names sig vars way (reads ps))
    (sym (drop-item args i arg lt item)) ∙ known

pub left_ended : (sig : Signature) (vars : List (List ℕ × ℕ)) (way : List ℕ) (args : List Pat)
    (i : ℕ) (names whole : List Name) → length args ≤ i
    → names ++ left_names sig vars way (reads (drop i args)) ≡ whole → names ≡ whole
left_ended sig vars way args i names whole le known =
    sym (append-nil names)
    ∙ ap (λ (ps : List Pat). names ++ left_names sig vars way (reads ps))
    (sym (drop_all i args le)) ∙ known

pub no_zeros : (base way : List ℕ) (n i : ℕ) → n ≤ i → way ≡ base ++ zeros (n - i) → way ≡ base
no_zeros base way n i le is =
    is ∙ ap (λ (m : ℕ). base ++ zeros m) (let none : n - i ≡ 0 = omega (arith, le) in none)
    ∙ append-nil base

-- ---- folds from the right

abbrev pub right_names : Signature → List (List ℕ × ℕ) → List ℕ → Unfoldeds → List Name
right_names sig vars way no_more = []
right_names sig vars way (and_more u no_more) = names_in sig vars way u
right_names sig vars way (and_more u (and_more v us)) =
    names_in sig vars (way ++ 0 ∷ []) u ++ right_names sig vars (way ++ 1 ∷ []) (and_more v us)

right_read : (sig : Signature) (vars : List (List ℕ × ℕ)) (way : List ℕ) (byte : ℕ)
    (name : List ℕ) (ss : List SortTree) (u : Unfolded) (us : Unfoldeds)
    → right_names sig vars way (and_more u us)
    ≡ names_in sig vars way (folded_right byte name ss u us)
right_read sig vars way byte name ss u no_more = refl
right_read sig vars way byte name ss u (and_more v us) =
    ap (λ (ns : List Name). names_in sig vars (way ++ 0 ∷ []) u ++ ns)
    (right_read sig vars (way ++ 1 ∷ []) byte name ss v us
    ∙ sym (append-nil (names_in sig vars (way ++ 1 ∷ []) (folded_right byte name ss v us))))

pub right_whole : (sig : Signature) (vars : List (List ℕ × ℕ)) (way : List ℕ) (args : List Pat)
    → 2 ≤ length args → (byte : ℕ) (name : List ℕ) (ss : List SortTree)
    → right_names sig vars way (reads args)
    ≡ names_in sig vars way (fold_of false byte name ss (reads args))
right_whole sig vars way [] many byte name ss = absurd (omega (arith, many))
right_whole sig vars way (p ∷ args) many byte name ss =
    right_read sig vars way byte name ss (unfolded (pattern_tree p)) (reads args)

right_step : (sig : Signature) (vars : List (List ℕ × ℕ)) (way : List ℕ) (p : Pat)
    (ps : List Pat) → 1 ≤ length ps
    → right_names sig vars way (reads (p ∷ ps))
    ≡ names_in sig vars (way ++ 0 ∷ []) (unfolded (pattern_tree p))
    ++ right_names sig vars (way ++ 1 ∷ []) (reads ps)
right_step sig vars way p [] some = absurd (omega (arith, some))
right_step sig vars way p (q ∷ ps) some = refl

pub right_goes_on : (sig : Signature) (vars : List (List ℕ × ℕ)) (way new : List ℕ)
    (args : List Pat) (i : ℕ) (arg : Pat) (before after whole : List Name) → i + 1 < length args
    → arg ≡ get_or args i arg → new ≡ way ++ 1 ∷ []
    → after ≡ before ++ names_in sig vars (way ++ 0 ∷ []) (unfolded (pattern_tree arg))
    → before ++ right_names sig vars way (reads (drop i args)) ≡ whole
    → after ++ right_names sig vars new (reads (drop (i + 1) args)) ≡ whole
right_goes_on sig vars way new args i arg before after whole lt item at made known =
    let own : List Name = names_in sig vars (way ++ 0 ∷ []) (unfolded (pattern_tree arg)) in
    let rest : List Name = right_names sig vars (way ++ 1 ∷ []) (reads (drop (i + 1) args)) in
    let long : length (drop (i + 1) args) ≡ length args - (i + 1) =
    (let known = length-drop (i + 1) args in omega (arith, known)) in
    ap (λ (w : List ℕ). after ++ right_names sig vars w (reads (drop (i + 1) args))) at
    ∙ ap (λ (ns : List Name). ns ++ rest) made ∙ append_assoc before own rest
    ∙ ap (λ (ns : List Name). before ++ ns)
    (sym (right_step sig vars way arg (drop (i + 1) args) (omega (arith, long, lt))))
    ∙ ap (λ (ps : List Pat). before ++ right_names sig vars way (reads ps))
    (sym (drop-item args i arg (omega (arith, lt)) item)) ∙ known

pub right_ended : (sig : Signature) (vars : List (List ℕ × ℕ)) (way : List ℕ) (args : List Pat)
    (i : ℕ) (arg : Pat) (before after whole : List Name) → i < length args
    → length args ≤ i + 1 → arg ≡ get_or args i arg
    → after ≡ before ++ names_in sig vars way (unfolded (pattern_tree arg))
    → before ++ right_names sig vars way (reads (drop i args)) ≡ whole → after ≡ whole
right_ended sig vars way args i arg before after whole lt last item made known =
    made
    ∙ ap (λ (ps : List Pat). before ++ right_names sig vars way (reads ps))
    (ap (λ (ps : List Pat). arg ∷ ps) (sym (drop_all (i + 1) args last))
    ∙ sym (drop-item args i arg lt item)) ∙ known

-- ---- a fold has the names of what it stands for

pub standing_names : (sig : Signature) (vars : List (List ℕ × ℕ)) (way : List ℕ) (at : ℕ)
    (u : Unfolded) → names_in sig vars way u ≡ names_in sig vars way (standing_at at u)
standing_names sig vars way at (named_variable there n s) = refl
standing_names sig vars way at (written_value there s text byte) = refl
standing_names sig vars way at (applied_symbol there byte n ss us) = refl
standing_names sig vars way at (both_of there s u w) = refl
standing_names sig vars way at (other_form there) = refl

pub no_names : (sig : Signature) (vars : List (List ℕ × ℕ)) (way : List ℕ) (at : ℕ)
    (args : List Pat) (before : List Name) → (length args ≡ 1 → ⊥)
    → before ≡ before ++ names_in sig vars way (only_of at (reads args))
no_names sig vars way at args before other =
    sym (append-nil before)
    ∙ ap (λ (u : Unfolded). before ++ names_in sig vars way u) (sym (only_other at args other))

pub on_same : {T E : Type 0} (r : Result T E) (before after xs ys : List Name) → xs ≡ ys
    → OnOk r (after ≡ before ++ xs) → OnOk r (after ≡ before ++ ys)
on_same (Ok x) before after xs ys same known =
    known ∙ ap (λ (ns : List Name). before ++ ns) same
on_same (Err e) before after xs ys same known = known

-- the names in an `\and` of two patterns, and the name that it gives
pub pair_names : {T E : Type 0} (sig : Signature) (vars : List (List ℕ × ℕ))
    (way one two : List ℕ) (at : ℕ) (s : SortTree) (u w whole : Unfolded) (o r : Option ℕ)
    (before first second after : List Name) (result : Result T E) → whole ≡ both_of at s u w
    → one ≡ way → two ≡ way → o ≡ number_of_variable sig vars u → r ≡ number_of_variable sig vars w
    → first ≡ before ++ names_in sig vars way u → second ≡ first ++ names_in sig vars one w
    → OnOk result (after ≡ second ++ name_at two o r)
    → OnOk result (after ≡ before ++ names_in sig vars way whole)
pair_names sig vars way one two at s u w whole o r before first second after (Err e) is same near a b
    f g h =
    h
pair_names sig vars way one two at s u w whole o r before first second after (Ok x) is same near a b
    f g h =
    let own : List Name = name_at way (number_of_variable sig vars u) (number_of_variable sig vars w) in
    let lower : List Name = names_in sig vars way u in
    let upper : List Name = names_in sig vars way w in
    h ∙ ap (λ (v : List ℕ). second ++ name_at v o r) near
    ∙ ap (λ (n : Option ℕ). second ++ name_at way n r) a
    ∙ ap (λ (n : Option ℕ). second ++ name_at way (number_of_variable sig vars u) n) b
    ∙ ap (λ (ns : List Name). ns ++ own)
    (g ∙ ap (λ (v : List ℕ). first ++ names_in sig vars v w) same
    ∙ ap (λ (ns : List Name). ns ++ upper) f)
    ∙ ap (λ (ns : List Name). ns ++ own) (append_assoc before lower upper)
    ∙ append_assoc before (lower ++ upper) own
    ∙ ap (λ (ns : List Name). before ++ ns) (append_assoc lower upper own)
    ∙ ap (λ (v : Unfolded). before ++ names_in sig vars way v) (sym is)

-- the fold of an application
pub short_read : (left : Bool) (p : Pat) (n : List ℕ) (ss : Vec Sort Global) (ps : Vec Pat Global)
    (ys : List Pat) → p.form ≡ form.App n ss ps → ys ≡ ps.items → length ps.items < 2
    → only_of p.at (reads ys) ≡ inner_fold left (pattern_tree p)
short_read left p n ss ps ys h args short =
    ap (λ (zs : List Pat). only_of p.at (reads zs)) args
    ∙ fold_short left p.at n (map plain_sort ss.items) ps.items short
    ∙ sym (application_folded left p n ss ps h)

pub side_read : (left side : Bool) (p : Pat) (n : List ℕ) (ss : Vec Sort Global)
    (ps : Vec Pat Global) (ys : List Pat) → p.form ≡ form.App n ss ps → ys ≡ ps.items
    → left ≡ side
    → fold_of side p.at n (map plain_sort ss.items) (reads ys) ≡ inner_fold left (pattern_tree p)
side_read left side p n ss ps ys h args is =
    ap (λ (zs : List Pat). fold_of side p.at n (map plain_sort ss.items) (reads zs)) args
    ∙ sym (application_folded side p n ss ps h)
    ∙ ap (λ (b : Bool). inner_fold b (pattern_tree p)) (sym is)
