-- The faults of the patterns that a fold means. They are those of its symbol, which are noted once,
-- and those of its arguments.
use Rattle.std.proofs.Common.{◌≡◌, ℕ, Bool, true, false, List, [], ◌++◌, Option, option_map, drop}
use Rattle.std.proofs.Common.{append_assoc, append-nil, sym, ◌∙◌, ap}
use Rattle.std.specs.Prelude.{flat_map}
use Rattle.kore_text.specs.Trees.{SortTree}
use Rattle.rule_core.specs.declared.signature.Signature.{Signature}
use Rattle.kore_sig.specs.FirstFault.{Fault}
use Rattle.kore_check.specs.declared.check.FoldSorts.{FoldSorts}
use Rattle.kore_check.specs.Folds.{Unfolded, Unfoldeds, no_more, and_more, unfolded_byte}
use Rattle.kore_check.specs.Folds.{applied_to_two, folded_left, folded_right, fold_of}
use Rattle.kore_check.specs.PatternSorts.{sort_of_pattern, symbol_named, sort_numbers, result_sort}
use Rattle.kore_check.specs.PatternSorts.{places_of}
use Rattle.kore_check.specs.PatternFaults.{pattern_faults, sort_faults, symbol_faults, clash_faults}
use Rattle.kore_check.specs.PatternFaults.{first_wanted}
use Rattle.kore_check.specs.FoldFaults.{folded_faults, rest_faults}
use Rattle.kore_check.specs.Notes.{sort_no}
use Rattle.kore_check.proofs.NotedLaws.{SameFaults}
use Rattle.kore_check.proofs.SameFaults.{same-refl, same-trans, same-eq, same-append, same-swap}
use Rattle.kore_check.proofs.SameFaults.{same-front, same-twice}

-- the faults of a symbol with two arguments
abbrev pub head_of : Signature → ℕ → List ℕ → List SortTree → List Fault
head_of sig byte name ss =
    flat_map (sort_faults sig) ss ++ symbol_faults sig byte (symbol_named sig name) ss 2

-- what the code knows of the applications of a fold is true
pub record Knows (sig : Signature) (byte : ℕ) (name : List ℕ) (ss : List SortTree) (s : FoldSorts) :
    Type 0 where
  pub at : s.at ≡ byte
  pub own : option_map sort_no s.own ≡ result_sort (symbol_named sig name) ss (sort_numbers sig ss)
  pub lower : option_map sort_no s.lower ≡ first_wanted sig ss (places_of (symbol_named sig name))
  pub upper : option_map sort_no s.upper
      ≡ first_wanted sig ss (drop 1 (places_of (symbol_named sig name)))

-- the clash of a pattern with the wanted sort
abbrev clash : Signature → Unfolded → Option ℕ → List Fault
clash sig p wanted = clash_faults (unfolded_byte p) (sort_of_pattern sig p) wanted

-- the faults of an application to two patterns
two_faults : (sig : Signature) (byte : ℕ) (name : List ℕ) (ss : List SortTree) (s : FoldSorts)
    (p q : Unfolded) → Knows sig byte name ss s
    → pattern_faults sig (applied_to_two byte name ss p q)
    ≡ head_of sig byte name ss
    ++ (pattern_faults sig p
    ++ (clash sig p (option_map sort_no s.lower)
    ++ (pattern_faults sig q ++ (clash sig q (option_map sort_no s.upper) ++ []))))
two_faults sig byte name ss s p q k =
    sym (append_assoc (flat_map (sort_faults sig) ss) _ _)
    ∙ ap (λ (w : Option ℕ). head_of sig byte name ss
    ++ (pattern_faults sig p
    ++ (clash sig p w
    ++ (pattern_faults sig q
    ++ (clash sig q
    (first_wanted sig ss (drop 1 (places_of (symbol_named sig name))))
    ++ []))))) (sym k.lower)
    ∙ ap (λ (w : Option ℕ). head_of sig byte name ss
    ++ (pattern_faults sig p
    ++ (clash sig p (option_map sort_no s.lower)
    ++ (pattern_faults sig q ++ (clash sig q w ++ []))))) (sym k.upper)

-- the clash of such an application if it is an argument itself
own_clash : (sig : Signature) (byte : ℕ) (name : List ℕ) (ss : List SortTree) (s : FoldSorts)
    (p q : Unfolded) (wanted : Option ℕ) → Knows sig byte name ss s
    → clash sig (applied_to_two byte name ss p q) wanted
    ≡ clash_faults s.at (option_map sort_no s.own) wanted
own_clash sig byte name ss s p q wanted k =
    ap (λ (b : ℕ).
    clash_faults b (result_sort (symbol_named sig name) ss (sort_numbers sig ss)) wanted)
    (sym k.at)
    ∙ ap (λ (o : Option ℕ). clash_faults s.at o wanted) (sym k.own)

-- from the left: the faults of the patterns after an application that is already built
abbrev left_rest : Signature → FoldSorts → Unfoldeds → List Fault
left_rest sig s no_more = []
left_rest sig s (and_more q qs) =
    clash_faults s.at (option_map sort_no s.own) (option_map sort_no s.lower)
    ++ (pattern_faults sig q ++ (clash sig q (option_map sort_no s.upper) ++ left_rest sig s qs))

regroup : (h a c p k t : List Fault)
    → (h ++ (a ++ (c ++ (p ++ (k ++ []))))) ++ t ≡ (h ++ a) ++ (c ++ (p ++ (k ++ t)))
regroup h a c p k t = simp (append_assoc, append-nil)

-- the faults of the symbol are among those of its application
absorbed : (h a rest : List Fault) → a ≡ h ++ rest → SameFaults (h ++ a) a
absorbed h a rest e =
    same-trans (h ++ a) (h ++ (h ++ rest)) a (same-eq _ _ (ap (λ (x : List Fault). h ++ x) e))
    (same-trans (h ++ (h ++ rest)) (h ++ rest) a (same-twice h rest) (same-eq _ _ (sym e)))

left_built : (sig : Signature) (byte : ℕ) (name : List ℕ) (ss : List SortTree) (s : FoldSorts)
    (u v : Unfolded) (qs : Unfoldeds) → Knows sig byte name ss s
    → SameFaults
    (pattern_faults sig (folded_left byte name ss (applied_to_two byte name ss u v) qs))
    (pattern_faults sig (applied_to_two byte name ss u v) ++ left_rest sig s qs)
left_built sig byte name ss s u v no_more k =
    same-eq _ _ (sym (append-nil (pattern_faults sig (applied_to_two byte name ss u v))))
left_built sig byte name ss s u v (and_more q qs) k =
    let w : Unfolded = applied_to_two byte name ss u v in
    let head : List Fault = head_of sig byte name ss in
    let built : List Fault = pattern_faults sig w in
    let outer : List Fault =
    clash_faults s.at (option_map sort_no s.own) (option_map sort_no s.lower) in
    let own : List Fault = pattern_faults sig q in
    let last : List Fault = clash sig q (option_map sort_no s.upper) in
    let rest : List Fault = left_rest sig s qs in
    let next : pattern_faults sig (applied_to_two byte name ss w q) ≡ head ++
    (built ++ (outer ++ (own ++ (last ++ [])))) =
    two_faults sig byte name ss s w q k
    ∙ ap (λ (c : List Fault). head ++ (built ++ (c ++ (own ++ (last ++ [])))))
    (own_clash sig byte name ss s u v (option_map sort_no s.lower) k) in
    same-trans _ (pattern_faults sig (applied_to_two byte name ss w q) ++ rest) _
    (left_built sig byte name ss s w q qs k)
    (same-trans _ ((head ++ built) ++ (outer ++ (own ++ (last ++ rest)))) _
    (same-eq _ _ (ap (λ (x : List Fault). x ++ rest) next ∙ regroup head built outer own last rest))
    (same-append (head ++ built) built (outer ++ (own ++ (last ++ rest)))
    (outer ++ (own ++ (last ++ rest)))
    (absorbed head built _ (two_faults sig byte name ss s u v k)) (same-refl _)))

left_same : (sig : Signature) (s : FoldSorts) (q : Unfolded) (qs : Unfoldeds)
    → SameFaults
    (pattern_faults sig q ++ (clash sig q (option_map sort_no s.upper) ++ left_rest sig s qs))
    (rest_faults sig true s (and_more q qs))
left_same sig s q no_more = same-refl _
left_same sig s q (and_more r qs) =
    let own : List Fault = pattern_faults sig q in
    let last : List Fault = clash sig q (option_map sort_no s.upper) in
    let outer : List Fault =
    clash_faults s.at (option_map sort_no s.own) (option_map sort_no s.lower) in
    let behind : List Fault =
    pattern_faults sig r ++ (clash sig r (option_map sort_no s.upper) ++ left_rest sig s qs) in
    same-trans (own ++ (last ++ (outer ++ behind))) (own ++ ((last ++ outer) ++ behind)) _
    (same-eq _ _ (ap (λ (x : List Fault). own ++ x) (sym (append_assoc last outer behind))))
    (same-append own own ((last ++ outer) ++ behind) _ (same-refl own) (same-append (last ++ outer)
    (last ++ outer) behind _ (same-refl (last ++ outer)) (left_same sig s r qs)))

-- lists that have the same faults after those of the symbol still do with other faults between
through : (h z xs ys : List Fault) → SameFaults (h ++ xs) (h ++ ys)
    → SameFaults (h ++ (z ++ xs)) (h ++ (z ++ ys))
through h z xs ys same =
    same-trans (h ++ (z ++ xs)) (z ++ (h ++ xs)) (h ++ (z ++ ys)) (same-front h z xs)
    (same-trans (z ++ (h ++ xs)) (z ++ (h ++ ys)) (h ++ (z ++ ys))
    (same-append z z (h ++ xs) (h ++ ys) (same-refl z) same) (same-front z h ys))

regroup_right : (h p k x y c : List Fault)
    → h ++ ((h ++ (p ++ (k ++ (x ++ (y ++ []))))) ++ c) ≡ h ++ (h ++ (p ++ (k ++ ((x ++ y) ++ c))))
regroup_right h p k x y c = simp (append_assoc, append-nil)

-- from the right: the faults of a pattern that is not the first one, and of those after it
right_built : (sig : Signature) (byte : ℕ) (name : List ℕ) (ss : List SortTree) (s : FoldSorts)
    (p : Unfolded) (qs : Unfoldeds) → Knows sig byte name ss s
    → SameFaults (head_of sig byte name ss
    ++ (pattern_faults sig (folded_right byte name ss p qs)
    ++ clash sig (folded_right byte name ss p qs) (option_map sort_no s.upper)))
    (head_of sig byte name ss ++ rest_faults sig false s (and_more p qs))
right_built sig byte name ss s p no_more k =
    same-eq _ _ (ap (λ (x : List Fault). head_of sig byte name ss ++ (pattern_faults sig p ++ x))
    (sym (append-nil (clash sig p (option_map sort_no s.upper)))))
right_built sig byte name ss s p (and_more q qs) k =
    let inner : Unfolded = folded_right byte name ss q qs in
    let head : List Fault = head_of sig byte name ss in
    let own : List Fault = pattern_faults sig p in
    let first : List Fault = clash sig p (option_map sort_no s.lower) in
    let outer : List Fault =
    clash_faults s.at (option_map sort_no s.own) (option_map sort_no s.upper) in
    let built : List Fault = pattern_faults sig inner in
    let last : List Fault = clash sig inner (option_map sort_no s.upper) in
    let rest : List Fault = rest_faults sig false s (and_more q qs) in
    let whole : pattern_faults sig (applied_to_two byte name ss p inner) ++ clash sig
    (applied_to_two byte name ss p inner) (option_map sort_no s.upper) ≡
    (head ++ (own ++ (first ++ (built ++ (last ++ []))))) ++ outer =
    ap (λ (x : List Fault).
    x ++ clash sig (applied_to_two byte name ss p inner) (option_map sort_no s.upper))
    (two_faults sig byte name ss s p inner k)
    ∙ ap (λ (x : List Fault). (head ++ (own ++ (first ++ (built ++ (last ++ []))))) ++ x)
    (own_clash sig byte name ss s p inner (option_map sort_no s.upper) k) in
    same-trans _ (head ++ (head ++ (own ++ (first ++ ((built ++ last) ++ outer))))) _
    (same-eq _ _
    (ap (λ (x : List Fault). head ++ x) whole ∙ regroup_right head own first built last outer))
    (same-trans _ (head ++ (own ++ (first ++ ((built ++ last) ++ outer)))) _
    (same-twice head (own ++ (first ++ ((built ++ last) ++ outer))))
    (same-trans _ (head ++ ((own ++ (first ++ outer)) ++ (built ++ last))) _
    (same-append head head _ _ (same-refl head)
    (same-trans _ (own ++ (first ++ (outer ++ (built ++ last)))) _
    (same-append own own _ _ (same-refl own)
    (same-append first first _ _ (same-refl first) (same-swap (built ++ last) outer)))
    (same-eq _ _ (simp append_assoc))))
    (same-trans _ (head ++ ((own ++ (first ++ outer)) ++ rest)) _ (through head
    (own ++ (first ++ outer)) (built ++ last) rest (right_built sig byte name ss s q qs k))
    (same-eq _ _ (simp append_assoc)))))

regroup_first : (h p k q l t : List Fault)
    → (h ++ (p ++ (k ++ (q ++ (l ++ []))))) ++ t ≡ h ++ (p ++ (k ++ (q ++ (l ++ t))))
regroup_first h p k q l t = simp (append_assoc, append-nil)

pub fold_faults : (sig : Signature) (left : Bool) (byte : ℕ) (name : List ℕ) (ss : List SortTree)
    (s : FoldSorts) (p q : Unfolded) (qs : Unfoldeds) → Knows sig byte name ss s
    → SameFaults (pattern_faults sig (fold_of left byte name ss (and_more p (and_more q qs))))
    (head_of sig byte name ss ++ folded_faults sig left s (and_more p (and_more q qs)))
fold_faults sig true byte name ss s p q qs k =
    let head : List Fault = head_of sig byte name ss in
    let own : List Fault = pattern_faults sig p in
    let first : List Fault = clash sig p (option_map sort_no s.lower) in
    let second : List Fault = pattern_faults sig q in
    let last : List Fault = clash sig q (option_map sort_no s.upper) in
    let rest : List Fault = left_rest sig s qs in
    same-trans _ (pattern_faults sig (applied_to_two byte name ss p q) ++ rest) _
    (left_built sig byte name ss s p q qs k)
    (same-trans _ (head ++ (own ++ (first ++ (second ++ (last ++ rest))))) _
    (same-eq _ _ (ap (λ (x : List Fault). x ++ rest) (two_faults sig byte name ss s p q k)
    ∙ regroup_first head own first second last rest))
    (same-append head head _ _ (same-refl head) (same-append own own _ _ (same-refl own)
    (same-append first first _ _ (same-refl first) (left_same sig s q qs)))))
fold_faults sig false byte name ss s p q qs k =
    let inner : Unfolded = folded_right byte name ss q qs in
    let head : List Fault = head_of sig byte name ss in
    let own : List Fault = pattern_faults sig p in
    let first : List Fault = clash sig p (option_map sort_no s.lower) in
    let built : List Fault = pattern_faults sig inner in
    let last : List Fault = clash sig inner (option_map sort_no s.upper) in
    let rest : List Fault = rest_faults sig false s (and_more q qs) in
    same-trans _ (head ++ ((own ++ first) ++ (built ++ last))) _
    (same-eq _ _ (two_faults sig byte name ss s p inner k ∙ simp (append_assoc, append-nil)))
    (same-trans _ (head ++ ((own ++ first) ++ rest)) _
    (through head (own ++ first) (built ++ last) rest (right_built sig byte name ss s q qs k))
    (same-eq _ _ (ap (λ (x : List Fault). head ++ x) (append_assoc own first rest))))
