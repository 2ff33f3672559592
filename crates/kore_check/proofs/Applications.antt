-- What the check of an application notes.
use Rattle.std.proofs.Common.{◌≡◌, ℕ, ◌+◌, List, [], ◌∷◌, ◌++◌, length, map, drop, Option, Vec}
use Rattle.std.proofs.Common.{Global, get_or, ◌<◌, append_assoc, refl, sym, ◌∙◌, ap, arith}
use Rattle.std.specs.Prelude.{flat_map}
use Rattle.kore_text.specs.Trees.{SortTree, pattern_trees}
use Rattle.kore_ast.specs.declared.tree.Sort.{Sort}
use Rattle.kore_ast.specs.declared.tree.Pat.{Pat}
use Rattle.kore_ast.specs.declared.tree.PatForm.TheVariants as form
use Rattle.kore_ast.specs.Plain.{plain_sort, pattern_tree}
use Rattle.rule_core.specs.declared.signature.Signature.{Signature}
use Rattle.rule_core.specs.declared.signature.SymInfo.{SymInfo}
use Rattle.rule_core.specs.declared.signature.SortRef.{SortRef}
use Rattle.kore_sig.specs.FirstFault.{Fault}
use Rattle.kore_sig.specs.Noted.{noted, leads_by_byte}
use Rattle.kore_check.specs.declared.faults.PatternFault.{PatternFault}
use Rattle.kore_check.specs.Folds.{applied_symbol, Unfoldeds, unfolded_byte, count, unfolded}
use Rattle.kore_check.specs.Folds.{all_unfolded}
use Rattle.kore_check.specs.PatternSorts.{sort_numbers, sort_of_pattern, result_sort, symbol_named}
use Rattle.kore_check.specs.PatternSorts.{places_of}
use Rattle.kore_check.specs.PatternFaults.{sort_faults, symbol_faults, pattern_faults}
use Rattle.kore_check.specs.PatternFaults.{argument_faults, clash_faults, first_wanted}
use Rattle.kore_check.specs.Notes.{kept_fault, after}
use Rattle.kore_check.proofs.NotedLaws.{noted-append}
use Rattle.kore_check.proofs.Forms.{application_is, listed_sorts-trees}
use Rattle.kore_check.proofs.Items.{drop-item, drop-drop}

-- the patterns of a slice, with their folds expanded
abbrev pub reads : List Pat → Unfoldeds
reads ps = all_unfolded (pattern_trees (map pattern_tree ps))

pub after-append : (first second : Option PatternFault) (third : Option Fault) (xs ys : List Fault)
    → kept_fault second ≡ after first xs → third ≡ after second ys → third ≡ after first (xs ++ ys)
after-append first second third xs ys e f =
    f ∙ ap (λ (r : Option Fault). noted leads_by_byte r ys) e
    ∙ sym (noted-append (kept_fault first) xs ys)

pub count-reads : (ps : List Pat) → count (reads ps) ≡ length ps
count-reads [] = refl
count-reads (p ∷ ps) = ap (λ n. n + 1) (count-reads ps) ∙ omega arith

pub application_unfolded : (p : Pat) (n : List ℕ) (ss : Vec Sort Global) (ps : Vec Pat Global)
    → p.form ≡ form.App n ss ps
    → unfolded (pattern_tree p)
    ≡ applied_symbol p.at p.at n (map plain_sort ss.items) (reads ps.items)
application_unfolded p n ss ps h =
    ap unfolded (application_is p n ss ps h)
    ∙ ap (λ (xs : List SortTree). applied_symbol p.at p.at n xs (reads ps.items))
    (listed_sorts-trees (map plain_sort ss.items))

pub application_sorted : (sig : Signature) (p : Pat) (n : List ℕ) (ss : Vec Sort Global)
    (ps : Vec Pat Global) (symbol : Option SymInfo) (xs : List Sort) (own : Option ℕ)
    → p.form ≡ form.App n ss ps → symbol ≡ symbol_named sig n → xs ≡ ss.items
    → own ≡ result_sort symbol (map plain_sort xs) (sort_numbers sig (map plain_sort xs))
    → own ≡ sort_of_pattern sig (unfolded (pattern_tree p))
application_sorted sig p n ss ps symbol xs own h is same known =
    known
    ∙ ap (λ s. result_sort s (map plain_sort xs) (sort_numbers sig (map plain_sort xs))) is
    ∙ ap (λ (ys : List Sort). result_sort (symbol_named sig n) (map plain_sort ys)
    (sort_numbers sig (map plain_sort ys))) same
    ∙ sym (ap (sort_of_pattern sig) (application_unfolded p n ss ps h))

pub application_checked : (sig : Signature) (p : Pat) (n : List ℕ) (ss : Vec Sort Global)
    (ps : Vec Pat Global) (symbol : Option SymInfo) (xs zs : List Sort) (places : List SortRef)
    (ys : List Pat) (args : ℕ) (first second third : Option PatternFault)
    → p.form ≡ form.App n ss ps → symbol ≡ symbol_named sig n → xs ≡ ss.items → zs ≡ ss.items
    → places ≡ places_of symbol → ys ≡ ps.items → args ≡ length ps.items
    → kept_fault second
    ≡ after first (flat_map (sort_faults sig) (map plain_sort xs)
    ++ symbol_faults sig p.at symbol (map plain_sort xs) args)
    → kept_fault third ≡ after second (argument_faults sig (map plain_sort zs) places (reads ys))
    → kept_fault third ≡ after first (pattern_faults sig (unfolded (pattern_tree p)))
application_checked sig p n ss ps symbol xs zs places ys args first second third h is same1 same2 at
    same3 many e f =
    let S : List SortTree = map plain_sort ss.items in
    let sorts : List Fault = flat_map (sort_faults sig) S in
    let at_symbol : List Fault =
    symbol_faults sig p.at (symbol_named sig n) S (count (reads ps.items)) in
    let of_args : List Fault =
    argument_faults sig S (places_of (symbol_named sig n)) (reads ps.items) in
    let head : kept_fault second ≡ after first (flat_map (sort_faults sig) S
    ++ symbol_faults sig p.at (symbol_named sig n) S (count (reads ps.items))) =
    e
    ∙ ap (λ (zs : List Sort). after first (flat_map (sort_faults sig) (map plain_sort zs)
    ++ symbol_faults sig p.at symbol (map plain_sort zs) args)) same1
    ∙ ap (λ s. after first (flat_map (sort_faults sig) S ++ symbol_faults sig p.at s S args)) is
    ∙ ap (λ k. after first
    (flat_map (sort_faults sig) S ++ symbol_faults sig p.at (symbol_named sig n) S k))
    (many ∙ sym (count-reads ps.items)) in
    let rest : kept_fault third ≡ after second
    (argument_faults sig S (places_of (symbol_named sig n)) (reads ps.items)) =
    f
    ∙ ap (λ (xs : List Sort).
    after second (argument_faults sig (map plain_sort xs) places (reads ys))) same2
    ∙ ap (λ refs. after second (argument_faults sig S refs (reads ys))) (at ∙ ap places_of is)
    ∙ ap (λ (qs : List Pat).
    after second (argument_faults sig S (places_of (symbol_named sig n)) (reads qs)))
    same3 in
    after-append first second (kept_fault third) (sorts ++ at_symbol) of_args head rest
    ∙ ap (λ (fs : List Fault). after first fs) (append_assoc sorts at_symbol of_args)
    ∙ sym (ap (λ u. after first (pattern_faults sig u)) (application_unfolded p n ss ps h))

-- one turn of the loop over arguments
pub argument_checked : (sig : Signature) (S : List SortTree) (places : List SortRef)
    (args : List Pat) (i : ℕ) (arg : Pat) (own wanted : Option ℕ)
    (first second third : Option PatternFault) (target : Option Fault) → i < length args
    → arg ≡ get_or args i arg → unfolded_byte (unfolded (pattern_tree arg)) ≡ arg.at
    → own ≡ sort_of_pattern sig (unfolded (pattern_tree arg)) → wanted
    ≡ first_wanted sig S (drop i places)
    → kept_fault second ≡ after first (pattern_faults sig (unfolded (pattern_tree arg)))
    → kept_fault third ≡ after second (clash_faults arg.at own wanted)
    → after first (argument_faults sig S (drop i places) (reads (drop i args))) ≡ target
    → after third (argument_faults sig S (drop (i + 1) places) (reads (drop (i + 1) args))) ≡ target
argument_checked sig S places args i arg own wanted first second third target lt item at sorted want
    e f whole =
    let rest : List Fault =
    argument_faults sig S (drop (i + 1) places) (reads (drop (i + 1) args)) in
    let own_faults : List Fault = pattern_faults sig (unfolded (pattern_tree arg)) in
    let clashes : List Fault =
    clash_faults (unfolded_byte (unfolded (pattern_tree arg)))
    (sort_of_pattern sig (unfolded (pattern_tree arg))) (first_wanted sig S (drop i places)) in
    let clash : kept_fault third ≡ after second (clash_faults
    (unfolded_byte (unfolded (pattern_tree arg)))
    (sort_of_pattern sig (unfolded (pattern_tree arg)))
    (first_wanted sig S (drop i places))) =
    f ∙ ap (λ b. after second (clash_faults b own wanted)) (sym at)
    ∙ ap (λ o. after second (clash_faults (unfolded_byte (unfolded (pattern_tree arg))) o wanted))
    sorted
    ∙ ap (λ o. after second (clash_faults (unfolded_byte (unfolded (pattern_tree arg)))
    (sort_of_pattern sig (unfolded (pattern_tree arg))) o)) want in
    let joined : after third rest ≡ after first (pattern_faults sig (unfolded (pattern_tree arg))
    ++ (clash_faults (unfolded_byte (unfolded (pattern_tree arg)))
    (sort_of_pattern sig (unfolded (pattern_tree arg))) (first_wanted sig S (drop i places))
    ++ rest)) =
    after-append first second (after third rest) own_faults (clashes ++ rest) e
    (after-append second third (after third rest) clashes rest clash refl) in
    joined
    ∙ ap (λ refs. after first (pattern_faults sig (unfolded (pattern_tree arg))
    ++ (clash_faults (unfolded_byte (unfolded (pattern_tree arg)))
    (sort_of_pattern sig (unfolded (pattern_tree arg))) (first_wanted sig S (drop i places))
    ++ argument_faults sig S refs (reads (drop (i + 1) args)))))
    (sym (drop-drop places i))
    ∙ ap (λ (qs : List Pat). after first (argument_faults sig S (drop i places) (reads qs)))
    (sym (drop-item args i arg lt item))
    ∙ whole
