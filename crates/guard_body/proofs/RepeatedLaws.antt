-- A repeated equation: the numbers and the sorts of its variables, its condition and its arguments.
use Rattle.std.proofs.Common.{◌≡◌, ◌⊎◌, inl, inr, ◌<◌, ◌≤◌, ◌+◌, ◌++◌, ℕ, zero, suc, List, []}
use Rattle.std.proofs.Common.{◌∷◌, Bool, true, false, Option, Some, None, option_map, length}
use Rattle.std.proofs.Common.{replicate, take, get_or, slice_get, refl, sym, ◌∙◌, ap, subst, arith}
use Rattle.std.proofs.Common.{eq-eqb, All, length-append, nat_eq}
use Rattle.std.specs.Prelude.{Contains, IfSome, if◌then◌else◌, slice_index_or}
use Rattle.std.proofs.Math.Path.{fun_ext}
use Rattle.std.proofs.lemmas.Bool.{eqb-true, false≢true}
use Rattle.std.proofs.lemmas.List.{length-replicate, length-take-le, take_more}
use Rattle.std.proofs.lemmas.List.Elements.{All-contains_itself}
use Rattle.std.proofs.lemmas.Option.{slice_get-map, slice_get_within, get_or_from_slice_get}
use Rattle.term_core.specs.Terms.{Tree, Forest, no_tree, more_trees, truth}
use Rattle.term_core.specs.Forests.{forest}
use Rattle.term_core.specs.Patterns.{Pattern, Patterns, variable, domain_value, application}
use Rattle.term_core.specs.Patterns.{injection, call, no_pattern, more_patterns, ground_pattern}
use Rattle.term_core.specs.Patterns.{ground_patterns}
use Rattle.term_core.specs.RulePatterns.{plain_pattern}
use Rattle.term_core.specs.PatternLists.{plain_patterns}
use Rattle.term_core.specs.declared.rule_patterns.RulePat.{RulePat}
use Rattle.rule_core.specs.Matching.{OccursIn, OccursInSome}
use Rattle.rule_core.specs.NamedParts.{Name, IsNamed, pattern_at}
use Rattle.rule_core.specs.Rules.{Equation}
use Rattle.rule_core.specs.Sorting.{AreSorts, HasSort, HaveSorts, IsSymbol, IsTermOf, IsValueOf}
use Rattle.rule_core.specs.Sorting.{sort_at}
use Rattle.rule_core.specs.WellSorted.{HasNoCall, HaveNoCall, HaveNames, IsCondition}
use Rattle.rule_core.specs.WellSorted.{IsSignature}
use Rattle.rule_core.specs.declared.signature.Signature.{Signature}
use Rattle.rule_core.specs.declared.signature.SortKind.{SortKind}
use Rattle.rule_core.specs.declared.signature.SortRef.{SortRef}
use Rattle.rule_core.specs.declared.signature.SymInfo.{SymInfo}
use Rattle.rule_core.proofs.SortedInstances.{sorted_use_first}
use Rattle.ml_image.specs.HasImages as own
use Rattle.ml_image.specs.Images.{renamed}
use Rattle.ml_image.specs.LastResorts.{number_from, sorts_at, condition_renamed}
use Rattle.ml_image.specs.PartNames.{names_renamed}
use Rattle.ml_image.specs.Premises.{made_sort, sort_of, is_true}
use Rattle.ml_image.specs.Sentences.{Sentence, top}
use Rattle.ml_image.proofs.ConstructorLaws.{AreSorts-append}
use Rattle.ml_image.proofs.ImageLaws.{none_some, some_same}
use Rattle.ml_image.proofs.LastResortLaws.{listed_are_sorts, listed_many}
use Rattle.ml_image.proofs.NamedLaws.{rest_below}
use Rattle.ml_image.proofs.WellSortedLaws.{names_below, sorted_has_image}
use Rattle.guard_body.specs.Arguments.{IsArgument, IsVariableOf, part_names_of, pattern_of}
use Rattle.guard_body.specs.Guarded.{IsAppliedTo, IsOrderOf}
use Rattle.guard_body.specs.Renaming.{AreRenamed, CanRename, names_at, sorts_from}
use Rattle.guard_body.specs.declared.arguments.Argument.{Argument}
use Rattle.guard_body.proofs.Renamings.{Renumbers, no_call_renamed, occurs_before, sorted_renamed}
use Rattle.guard_body.proofs.RenamedNames.{named_before, names_right}

-- ---- numbers

-- the variable is listed, and its number is that of its place
pub record IsListed (k : ℕ) (order : List ℕ) (x : ℕ) : Type 0 where
  pub place : ℕ
  pub low : place < length order
  pub there : slice_get order place ≡ Some x
  pub number : number_from k order x ≡ k + place

pub listed : (k : ℕ) (order : List ℕ) (x : ℕ) → Contains order x → IsListed k order x
listed k [] x h = absurd (omega (arith, h.1))
listed k (y ∷ ys) x h = go (nat_eq x y) refl (listed (k + 1) ys x)
  where
    later : nat_eq x y ≡ false → Contains (y ∷ ys) x → Contains ys x
    later other (zero, low, is) = absurd (false≢true (sym other ∙ eq-eqb x y (sym is)))
    later other (suc i, low, is) = (i, omega (arith, low), is)

    go : (b : Bool) → nat_eq x y ≡ b → (Contains ys x → IsListed (k + 1) ys x)
        → IsListed k (y ∷ ys) x
    go true is rest =
        let here : k ≡ k + 0 = omega arith in
        record {
          place = 0;
          low = omega arith;
          there = ap (λ (z : ℕ). Some z) (sym (eqb-true x y is));
          number =
              ap (λ (b : Bool). if b then k else number_from (k + 1) ys x) is ∙ here;
        }
    go false is rest =
        let w : IsListed (k + 1) ys x = rest (later is h) in
        let further : k + 1 + w.place ≡ k + suc w.place = omega arith in
        record {
          place = suc w.place;
          low = omega (arith, w.low);
          there = w.there;
          number =
              ap (λ (b : Bool). if b then k else number_from (k + 1) ys x) is ∙ w.number
              ∙ further;
        }

number_apart : (k : ℕ) (order : List ℕ) (x y : ℕ) → Contains order x → Contains order y
    → number_from k order x ≡ number_from k order y → x ≡ y
number_apart k order x y first second same =
    let a : IsListed k order x = listed k order x first in
    let b : IsListed k order y = listed k order y second in
    let at : a.place ≡ b.place = omega (arith, a.number, b.number, same) in
    some_same x y (sym a.there ∙ ap (slice_get order) at ∙ b.there)

-- ---- sorts

get_behind : (k s : ℕ) (ys : List ℕ) (i : ℕ)
    → slice_get (replicate k s ++ ys) (k + i) ≡ slice_get ys i
get_behind zero s ys i = let same : 0 + i ≡ i = omega arith in ap (slice_get ys) same
get_behind (suc k) s ys i =
    let next : suc k + i ≡ suc (k + i) = omega arith in
    ap (slice_get (replicate (suc k) s ++ ys)) next ∙ get_behind k s ys i

index_there : (xs : List ℕ) (i x : ℕ) → slice_get xs i ≡ Some x → slice_index_or xs i 0 ≡ x
index_there xs i x there = get_or_from_slice_get xs i x 0 there

sort_moved : (k : ℕ) (vars order : List ℕ) (x s : ℕ)
    → ((y : ℕ) → y < length vars → Contains order y) → slice_get vars x ≡ Some s
    → slice_get (sorts_from k vars order) (number_from k order x) ≡ Some s
sort_moved k [] order x s each at = absurd (none_some s at)
sort_moved k (v ∷ vars) order x s each at =
    let w : IsListed k order x =
    listed k order x (each x (slice_get_within (v ∷ vars) x s at)) in
    ap (slice_get (sorts_from k (v ∷ vars) order)) w.number
    ∙ get_behind k v (sorts_at (v ∷ vars) order) w.place
    ∙ slice_get-map (λ (y : ℕ). slice_index_or (v ∷ vars) y 0) order w.place
    ∙ ap (option_map (λ (y : ℕ). slice_index_or (v ∷ vars) y 0)) w.there
    ∙ ap (λ (z : ℕ). Some z) (index_there (v ∷ vars) x s at)

pub renumbers : (k : ℕ) (vars order : List ℕ) → IsOrderOf (length vars) order
    → Renumbers (number_from k order) vars (sorts_from k vars order)
renumbers k vars order is = record {
  sorted = λ x s at. sort_moved k vars order x s (λ y low. (is.each y).1 low) at;
  one_to_one =
      λ x y lx ly same. number_apart k order x y ((is.each x).1 lx) ((is.each y).1 ly) same;
}

pub order_within : (n : ℕ) (order : List ℕ) → IsOrderOf n order → All (λ x. x < n) order
order_within n order is = λ i d low. (is.each (slice_index_or order i d)).0
    (All-contains_itself order i d low)

sorts_long : (k v : ℕ) (vars order : List ℕ)
    → length (sorts_from k (v ∷ vars) order) ≡ k + length order
sorts_long k v vars order =
    omega (
      arith,
      length-append (replicate k v) (sorts_at (v ∷ vars) order),
      length-replicate k v,
      listed_many (v ∷ vars) order,
    )

pub sorts_few : (k : ℕ) (vars order : List ℕ)
    → length (sorts_from k vars order) ≤ k + length order
sorts_few k [] order = omega arith
sorts_few k (v ∷ vars) order = omega (arith, sorts_long k v vars order)

pub sorts_many : (k : ℕ) (vars order : List ℕ) (x : ℕ) → All (λ y. y < length vars) order
    → x < length order → k + x < length (sorts_from k vars order)
sorts_many k [] order x within low = absurd (omega (arith, within x 0 low))
sorts_many k (v ∷ vars) order x within low = omega (arith, sorts_long k v vars order, low)

are_sorts : (sig : Signature) (ss : List ℕ) → All (λ s. s < length sig.sorts) ss → AreSorts sig ss
are_sorts sig [] h = tt
are_sorts sig (s ∷ ss) h =
    (h 0 0 (omega arith), are_sorts sig ss (λ k d low. h (suc k) d (omega (arith, low))))

repeated_sorts : (sig : Signature) (k s : ℕ) → s < length sig.sorts → AreSorts sig (replicate k s)
repeated_sorts sig zero s low = tt
repeated_sorts sig (suc k) s low = (low, repeated_sorts sig k s low)

pub sorts_are : (sig : Signature) (k : ℕ) (vars order : List ℕ)
    → All (λ s. s < length sig.sorts) vars → All (λ x. x < length vars) order
    → AreSorts sig (sorts_from k vars order)
sorts_are sig k [] order h within = tt
sorts_are sig k (v ∷ vars) order h within =
    AreSorts-append sig (replicate k v) (sorts_at (v ∷ vars) order)
    (repeated_sorts sig k v (h 0 0 (omega arith)))
    (listed_are_sorts sig (v ∷ vars) order (are_sorts sig (v ∷ vars) h) within)

-- ---- the condition

made_there : (sig : Signature) (f : ℕ) (info : SymInfo) (sorts : List ℕ) → IsSymbol sig f info
    → made_sort sig f sorts ≡ sort_at sorts info.result
made_there sig f info sorts there = rw there.1 refl

sort_of-sorted : (sig : Signature) (vars : List ℕ) (p : Pattern) (sort : ℕ)
    → HasSort sig vars p sort → sort_of sig vars p ≡ Some sort
sort_of-sorted sig vars (variable x) sort h = h
sort_of-sorted sig vars (domain_value s v) sort h = ap (λ (n : ℕ). Some n) h.0
sort_of-sorted sig vars (application f ps) sort h = made_there sig f h.0 [] h.1 ∙ h.3
sort_of-sorted sig vars (injection a b p) sort h = ap (λ (n : ℕ). Some n) h.1
sort_of-sorted sig vars (call f ss ps) sort h = made_there sig f h.0 ss h.1 ∙ h.5

pub condition_met : (sig : Signature) (vars : List ℕ) (ps : Patterns) (names : List Name)
    (o : Option Pattern) → IsSignature sig → IfSome o (IsCondition sig vars ps names)
    → own.IsCondition sig vars o
condition_met sig vars ps names None ok h = tt
condition_met sig vars ps names (Some p) ok (sort, name, info, there, kind, sorted, only) = record {
  image = sorted_has_image sig vars p sort ok sorted;
  sort = sort;
  sorted = sort_of-sorted sig vars p sort sorted;
  truths = (name, info, there, subst (λ (k : SortKind). IsValueOf k (truth true)) (sym kind) tt);
}

pub condition_said : (sig : Signature) (g : ℕ → ℕ) (vars : List ℕ) (o : Option Pattern)
    → own.IsCondition sig vars o
    → (c : Sentence) × (condition_renamed sig g vars o ≡ Some c)
condition_said sig g vars None h = (top, refl)
condition_said sig g vars (Some p) h =
    (is_true (renamed g p) h.sort, ap (option_map (is_true (renamed g p))) h.sorted)

-- ---- arguments

pub none_at : (P : Argument → Type 0) → All P []
none_at P k d low = absurd (omega (arith, low))

more_at : (P : Argument → Type 0) (a : Argument) (bs : List Argument) → P a → All P bs
    → All P (a ∷ bs)
more_at P a bs first rest zero d low = first
more_at P a bs first rest (suc i) d low = rest i d (omega (arith, low))

argument_right : (sig : Signature) (g : ℕ → ℕ) (vars new : List ℕ) (whole : Patterns)
    (names : List Name) (i sort : ℕ) (p : Pattern) (t : Tree) (a : Argument)
    → Renumbers g vars new → HaveNames sig vars whole names
    → ((x : ℕ) → OccursInSome x whole → x < length vars) → pattern_at whole i ≡ Some p
    → HasSort sig vars p sort → HasNoCall p → HasSort sig [] (ground_pattern t) sort
    → pattern_of a ≡ renamed g p → part_names_of a ≡ names_at i (names_renamed g names)
    → a.term.now ≡ t → IsArgument sig new a
argument_right sig g vars new whole names i sort p t a r have uses at sorted no_call is_term same
    named term_is = record {
      sort = sort;
      sorted =
          subst (λ (q : Pattern). HasSort sig new q sort) (sym same)
          (sorted_renamed sig g vars new p sort r sorted);
      no_call = subst HasNoCall (sym same) (no_call_renamed g p no_call);
      names =
          subst (λ (q : Pattern). HaveNames sig new (more_patterns q no_pattern) (part_names_of a))
          (sym same)
          (subst (λ (ns : List Name). HaveNames sig new (more_patterns (renamed g p) no_pattern) ns)
          (sym named) (names_right sig g vars new whole names i p r have uses at));
      is_term = subst (λ (u : Tree). IsTermOf sig u sort) (sym term_is) is_term;
    }

arguments_right : (sig : Signature) (g : ℕ → ℕ) (vars new : List ℕ) (whole : Patterns)
    (names : List Name) (i : ℕ) (ps : Patterns) (ts : Forest) (refs : List SortRef)
    (bs : List Argument) → Renumbers g vars new → HaveNames sig vars whole names
    → ((x : ℕ) → OccursInSome x whole → x < length vars)
    → ((j : ℕ) (p : Pattern) → pattern_at ps j ≡ Some p → pattern_at whole (i + j) ≡ Some p)
    → HaveSorts sig vars [] ps refs → HaveNoCall ps → HaveSorts sig [] [] (ground_patterns ts) refs
    → AreRenamed g names i ps ts bs → All (IsArgument sig new) bs
arguments_right sig g vars new whole names i no_pattern no_tree refs [] r have uses there h no_call
    terms are =
    none_at (IsArgument sig new)
arguments_right sig g vars new whole names i no_pattern no_tree refs (a ∷ bs) r have uses there h
    no_call terms are = absurd are
arguments_right sig g vars new whole names i no_pattern (more_trees t ts) refs bs r have uses there
    h no_call terms are = absurd are
arguments_right sig g vars new whole names i (more_patterns p ps) no_tree refs bs r have uses there
    h no_call terms are = absurd are
arguments_right sig g vars new whole names i (more_patterns p ps) (more_trees t ts) refs [] r have
    uses there h no_call terms are = absurd are
arguments_right sig g vars new whole names i (more_patterns p ps) (more_trees t ts) [] (a ∷ bs) r
    have uses there h no_call terms are = absurd h
arguments_right sig g vars new whole names i (more_patterns p ps) (more_trees t ts) (ref ∷ refs)
    (a ∷ bs) r have uses there h no_call terms (same, named, term_is, rest) =
    let here : i ≡ i + 0 = omega arith in
    let one : IsArgument sig new a =
    argument_right sig g vars new whole names i h.0 p t a r have uses
    (ap (pattern_at whole) here ∙ there 0 p refl) h.2 no_call.0
    (subst (HasSort sig [] (ground_pattern t)) (some_same terms.0 h.0 (sym terms.1 ∙ h.1))
    terms.2) same named term_is in
    more_at (IsArgument sig new) a bs one
    (arguments_right sig g vars new whole names (i + 1) ps ts refs bs r have uses
    (λ j q at. let next : i + 1 + j ≡ i + suc j = omega arith in
    ap (pattern_at whole) next ∙ there (suc j) q at) h.3 no_call.1 terms.3 rest)

pub arguments_are : (sig : Signature) (k : ℕ) (order : List ℕ) (ts : Forest) (e : Equation)
    (bs : List Argument) → IsOrderOf (length e.variables) order → IsAppliedTo sig e ts
    → AreRenamed (number_from k order) e.names 0 e.arguments ts bs
    → All (IsArgument sig (sorts_from k e.variables order)) bs
arguments_are sig k order ts e bs is (info, equation, terms) are =
    arguments_right sig (number_from k order) e.variables (sorts_from k e.variables order)
    e.arguments e.names 0 e.arguments ts info.args.items bs (renumbers k e.variables order is)
    equation.names
    (sorted_use_first sig e.variables [] e.arguments info.args.items equation.arguments)
    (λ j p at. let same : 0 + j ≡ j = omega arith in ap (pattern_at e.arguments) same ∙ at)
    equation.arguments equation.no_call terms are

-- ---- variables

-- the variable is the number of one of these
abbrev pub IsNumberOf : (ℕ → ℕ) → Patterns → List Name → ℕ → Type 0
IsNumberOf g whole names y =
    (x : ℕ) × (OccursInSome x whole ⊎ IsNamed names x) × (y ≡ g x)

argument_uses : (g : ℕ → ℕ) (whole : Patterns) (names : List Name) (i y : ℕ) (p : Pattern)
    (a : Argument) → ((x : ℕ) → OccursIn x p → OccursInSome x whole)
    → pattern_of a ≡ renamed g p → part_names_of a ≡ names_at i (names_renamed g names)
    → IsVariableOf a y → IsNumberOf g whole names y
argument_uses g whole names i y p a within same named (inl h) =
    let w : (x : ℕ) × OccursIn x p × (y ≡ g x) =
    occurs_before g y p (subst (OccursIn y) same h) in
    (w.0, inl (within w.0 w.1), w.2)
argument_uses g whole names i y p a within same named (inr h) =
    let w : (x : ℕ) × IsNamed names x × (y ≡ g x) =
    named_before g i y names (subst (λ (ns : List Name). IsNamed ns y) named h) in
    (w.0, inr w.1, w.2)

pub arguments_use : (g : ℕ → ℕ) (whole : Patterns) (names : List Name) (i : ℕ) (ps : Patterns)
    (ts : Forest) (bs : List Argument) → ((x : ℕ) → OccursInSome x ps → OccursInSome x whole)
    → AreRenamed g names i ps ts bs
    → All (λ a. (y : ℕ) → IsVariableOf a y → IsNumberOf g whole names y) bs
arguments_use g whole names i no_pattern no_tree [] within are =
    none_at (λ a. (y : ℕ) → IsVariableOf a y → IsNumberOf g whole names y)
arguments_use g whole names i no_pattern no_tree (a ∷ bs) within are = absurd are
arguments_use g whole names i no_pattern (more_trees t ts) bs within are = absurd are
arguments_use g whole names i (more_patterns p ps) no_tree bs within are = absurd are
arguments_use g whole names i (more_patterns p ps) (more_trees t ts) [] within are = absurd are
arguments_use g whole names i (more_patterns p ps) (more_trees t ts) (a ∷ bs) within
    (same, named, term_is, rest) =
    more_at (λ b. (y : ℕ) → IsVariableOf b y → IsNumberOf g whole names y) a bs
    (λ y h. argument_uses g whole names i y p a (λ x o. within x (inl o)) same named h)
    (arguments_use g whole names (i + 1) ps ts bs (λ x o. within x (inr o)) rest)

pub named_low : (n : ℕ) (names : List Name) (x : ℕ) → own.AreNamesBelow n names → IsNamed names x
    → x < n
named_low n [] x below h = absurd h
named_low n (m ∷ names) x below (inl is) =
    subst (λ (y : ℕ). y < n) is (below 0 m (omega arith))
named_low n (m ∷ names) x below (inr h) =
    named_low n names x (rest_below n m names below) h

-- the variables of the arguments are those that are numbered
pub variables_numbered : (sig : Signature) (k : ℕ) (order : List ℕ) (ts : Forest) (e : Equation)
    (bs : List Argument) (i y : ℕ) (a : Argument) → IsOrderOf (length e.variables) order
    → IsAppliedTo sig e ts → AreRenamed (number_from k order) e.names 0 e.arguments ts bs
    → slice_get bs i ≡ Some a → IsVariableOf a y
    → (x : ℕ) × (x < length order) × (y ≡ k + x)
variables_numbered sig k order ts e bs i y a is (info, equation, terms) are there h =
    let P : Argument → Type 0 =
    λ b. (z : ℕ) → IsVariableOf b z → IsNumberOf (number_from k order) e.arguments e.names z in
    let all : All P bs =
    arguments_use (number_from k order) e.arguments e.names 0 e.arguments ts bs (λ x o. o) are in
    let used : P a =
    subst P (get_or_from_slice_get bs i a a there) (all i a (slice_get_within bs i a there)) in
    go (used y h)
  where
    low : (x : ℕ) → OccursInSome x e.arguments ⊎ IsNamed e.names x → x < length e.variables
    low x (inl o) =
        sorted_use_first sig e.variables [] e.arguments info.args.items equation.arguments x o
    low x (inr n) =
        named_low (length e.variables) e.names x
        (names_below sig e.variables e.arguments e.names equation.names) n

    go : IsNumberOf (number_from k order) e.arguments e.names y
        → (x : ℕ) × (x < length order) × (y ≡ k + x)
    go (x, used, same) =
        let w : IsListed k order x = listed k order x ((is.each x).1 (low x used)) in
        (w.place, w.low, same ∙ w.number)

-- ---- what can be renamed

pub can_rename : (sig : Signature) (ts : Forest) (e : Equation) (numbers : List ℕ)
    → IsAppliedTo sig e ts → length numbers ≡ length e.variables → CanRename e numbers
can_rename sig ts e numbers (info, equation, terms) long = record {
  arguments = λ x o. omega (
    arith,
    long,
    sorted_use_first sig e.variables [] e.arguments info.args.items equation.arguments x o,
  );
  names = λ i d low. omega (
    arith,
    long,
    names_below sig e.variables e.arguments e.names equation.names i d low,
  );
}

many_terms : (sig : Signature) (vars : List ℕ) (ps : List RulePat) (ts : List Tree)
    (refs : List SortRef) → HaveSorts sig vars [] (plain_patterns ps) refs
    → HaveSorts sig [] [] (ground_patterns (forest ts)) refs → length ps ≡ length ts
many_terms sig vars [] [] refs h k = refl
many_terms sig vars [] (t ∷ ts) [] h k = absurd k
many_terms sig vars [] (t ∷ ts) (ref ∷ refs) h k = absurd h
many_terms sig vars (p ∷ ps) [] [] h k = absurd h
many_terms sig vars (p ∷ ps) [] (ref ∷ refs) h k = absurd k
many_terms sig vars (p ∷ ps) (t ∷ ts) [] h k = absurd h
many_terms sig vars (p ∷ ps) (t ∷ ts) (ref ∷ refs) h k =
    ap suc (many_terms sig vars ps ts refs h.3 k.3)

pub as_many_terms : (sig : Signature) (ps : List RulePat) (ts : List Tree) (e : Equation)
    → e.arguments ≡ plain_patterns ps → IsAppliedTo sig e (forest ts) → length ps ≡ length ts
as_many_terms sig ps ts e is (info, equation, terms) =
    many_terms sig e.variables ps ts info.args.items
    (subst (λ (qs : Patterns). HaveSorts sig e.variables [] qs info.args.items) is
    equation.arguments) terms

-- ---- arguments, one after another

pub are_renamed_as : (g h : ℕ → ℕ) (names : List Name) (i : ℕ) (ps : Patterns) (ts : Forest)
    (bs : List Argument) → ((x : ℕ) → g x ≡ h x) → AreRenamed g names i ps ts bs
    → AreRenamed h names i ps ts bs
are_renamed_as g h names i ps ts bs same are =
    let one : g ≡ h = fun_ext same in
    subst (λ (f : ℕ → ℕ). AreRenamed f names i ps ts bs) one are

renamed_push : (g : ℕ → ℕ) (names : List Name) (k : ℕ) (qs : List RulePat) (us : List Tree)
    (bs : List Argument) (p : RulePat) (t : Tree) (a : Argument)
    → AreRenamed g names k (plain_patterns qs) (forest us) bs
    → pattern_of a ≡ renamed g (plain_pattern p)
    → part_names_of a ≡ names_at (k + length qs) (names_renamed g names) → a.term.now ≡ t
    → AreRenamed g names k (plain_patterns (qs ++ p ∷ [])) (forest (us ++ t ∷ [])) (bs ++ a ∷ [])
renamed_push g names k [] [] [] p t a are same named term_is =
    let here : k + 0 ≡ k = omega arith in (
      same,
      named ∙ ap (λ (i : ℕ). names_at i (names_renamed g names)) here,
      term_is,
      tt,
    )
renamed_push g names k [] [] (b ∷ bs) p t a are same named term_is = absurd are
renamed_push g names k [] (u ∷ us) bs p t a are same named term_is = absurd are
renamed_push g names k (q ∷ qs) [] bs p t a are same named term_is = absurd are
renamed_push g names k (q ∷ qs) (u ∷ us) [] p t a are same named term_is = absurd are
renamed_push g names k (q ∷ qs) (u ∷ us) (b ∷ bs) p t a (first, second, third, rest) same named
    term_is =
    let next : k + suc (length qs) ≡ k + 1 + length qs = omega arith in (
      first,
      second,
      third,
      renamed_push g names (k + 1) qs us bs p t a rest same
          (named ∙ ap (λ (i : ℕ). names_at i (names_renamed g names)) next) term_is,
    )

pub renamed_more : (g : ℕ → ℕ) (names : List Name) (ps : List RulePat) (ts : List Tree) (i : ℕ)
    (p : RulePat) (t : Tree) (made new : List Argument) (a : Argument) → i < length ps
    → i < length ts → p ≡ get_or ps i p → t ≡ get_or ts i t
    → AreRenamed g names 0 (plain_patterns (take i ps)) (forest (take i ts)) made
    → pattern_of a ≡ renamed g (plain_pattern p)
    → part_names_of a ≡ names_at i (names_renamed g names) → a.term.now ≡ t
    → new ≡ made ++ a ∷ []
    → AreRenamed g names 0 (plain_patterns (take (i + 1) ps)) (forest (take (i + 1) ts)) new
renamed_more g names ps ts i p t made new a low few at on before same named term_is is =
    let here : i ≡ 0 + length (take i ps) =
    omega (arith, length-take-le i ps (omega (arith, low))) in
    let patterns : take i ps ++ p ∷ [] ≡ take (i + 1) ps =
    ap (λ (q : RulePat). take i ps ++ q ∷ []) at ∙ sym (take_more ps i p low) in
    let trees : take i ts ++ t ∷ [] ≡ take (i + 1) ts =
    ap (λ (u : Tree). take i ts ++ u ∷ []) on ∙ sym (take_more ts i t few) in
    subst (λ (bs : List Argument). AreRenamed g names 0 (plain_patterns (take (i + 1) ps))
    (forest (take (i + 1) ts)) bs) (sym is)
    (subst (λ (qs : List RulePat). AreRenamed g names 0 (plain_patterns qs)
    (forest (take (i + 1) ts)) (made ++ a ∷ [])) patterns
    (subst (λ (us : List Tree). AreRenamed g names 0 (plain_patterns (take i ps ++ p ∷ []))
    (forest us) (made ++ a ∷ [])) trees
    (renamed_push g names 0 (take i ps) (take i ts) made p t a before same
    (named ∙ ap (λ (j : ℕ). names_at j (names_renamed g names)) here) term_is)))
