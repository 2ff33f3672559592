-- Works on a stack.
use Rattle.std.proofs.Common.{◌≡◌, ℕ, ◌+◌, ◌<◌, List, [], ◌∷◌, ◌++◌, length, take, drop}
use Rattle.std.proofs.Common.{refl, ap, ◌∙◌, sym, subst, append-nil, append_assoc, length-append, arith}
use Rattle.std.proofs.Common.{suc, Result, Ok, Err}
use Rattle.std.specs.Prelude.{OnOk, ◌-◌}
use Rattle.std.specs.Borrow.{Bor}
use Rattle.mm_text.specs.Bytes.{Token}
use Rattle.mm_database.specs.Proofs.{ProofTree, proof_node}
use Rattle.proof_nodes.specs.Tables.{forest_of, with_cited}
use Rattle.ml_pat.specs.Patterns.{Pattern}
use Rattle.mm_proof.specs.Labels.{own_labels}
use Rattle.mm_proof.specs.Listings.{Builds, Listing, trees_of}
use Rattle.mm_proof.specs.Trees.{cite, syntax_tree}
use Rattle.mm_proof.specs.Writing.{label_token, goal_tree, goal_trees}
use Rattle.mm_proof.specs.WorkStacks.{size_of, size_below, size_of_all, before_work, before_works}
use Rattle.mm_proof.specs.WorkStacks.{Leads, weight, stack_weight, PutsMore, PutsOn, IsTaken}
use Rattle.mm_proof.specs.WorkStacks.{IsReady, IsSyntaxTaken}
use Rattle.mm_proof.specs.declared.words.Label.{Label}
use Rattle.mm_proof.specs.declared.works.Goal.{Goal}
use Rattle.mm_proof.specs.declared.works.Work.{Work}
use Rattle.mm_proof.specs.declared.works.Work.TheVariants as work

-- the work on top is done first

popped : (k : ℕ) (ws : List Work) (w : Work) (after : List ProofTree → Type 0)
    (ts : List ProofTree) → before_works k (ws ++ w ∷ []) after ts
    → before_work k w (before_works k ws after) ts
popped k [] w after ts h = h
popped k (v ∷ ws) w after ts h = popped k ws w (before_work k v after) ts h

pushed : (k : ℕ) (ws : List Work) (w : Work) (after : List ProofTree → Type 0)
    (ts : List ProofTree) → before_work k w (before_works k ws after) ts
    → before_works k (ws ++ w ∷ []) after ts
pushed k [] w after ts h = h
pushed k (v ∷ ws) w after ts h = pushed k ws w (before_work k v after) ts h

pub stack_weight-push : (k : ℕ) (ws : List Work) (w : Work)
    → stack_weight k (ws ++ w ∷ []) ≡ stack_weight k ws + weight k w
stack_weight-push k [] w = omega arith
stack_weight-push k (v ∷ ws) w = omega (arith, stack_weight-push k ws w)

size_below-of : (ts : List ProofTree) → size_below (forest_of ts) ≡ size_of_all ts
size_below-of [] = refl
size_below-of (t ∷ ts) = ap (λ n. size_of t + n) (size_below-of ts)

length-goals : (k : ℕ) (goals : List Goal) → length (goal_trees k goals) ≡ length goals
length-goals k [] = refl
length-goals k (g ∷ goals) = ap suc (length-goals k goals)

-- a label over exactly the last trees

minus_behind : (m n : ℕ) → (m + n) - n ≡ m
minus_behind m n = omega arith

take-front : (ts us : List ProofTree) → take (length ts) (ts ++ us) ≡ ts
take-front [] us = refl
take-front (t ∷ ts) us = ap (λ (vs : List ProofTree). t ∷ vs) (take-front ts us)

drop-front : (ts us : List ProofTree) → drop (length ts) (ts ++ us) ≡ us
drop-front [] us = refl
drop-front (t ∷ ts) us = drop-front ts us

pub cited_exactly : (label : Token) (n : ℕ) (ts us : List ProofTree) → n ≡ length us
    → with_cited label n (ts ++ us) ≡ ts ++ cite label us ∷ []
cited_exactly label n ts us count =
    let left : length (ts ++ us) - n ≡ length ts =
    ap (λ (m : ℕ). length (ts ++ us) - m) count
    ∙ ap (λ (m : ℕ). m - length us) (length-append ts us) ∙ minus_behind (length ts) (length us) in
    ap (λ (m : ℕ).
    take m (ts ++ us) ++ proof_node label (forest_of (drop m (ts ++ us))) ∷ []) left
    ∙ ap (λ (vs : List ProofTree).
    vs ++ proof_node label (forest_of (drop (length ts) (ts ++ us))) ∷ []) (take-front ts us)
    ∙ ap (λ (vs : List ProofTree). ts ++ proof_node label (forest_of vs) ∷ []) (drop-front ts us)

pub cited_alone : (label : Token) (ts : List ProofTree)
    → with_cited label 0 ts ≡ ts ++ cite label [] ∷ []
cited_alone label ts =
    ap (with_cited label 0) (sym (append-nil ts)) ∙ cited_exactly label 0 ts [] refl

-- nothing, and one more goal before others

pub put_none : (old : List Work) → PutsMore (λ k. goal_trees k []) old old
put_none old = record {
  builds = λ k ts last h. subst (λ (us : List ProofTree). Leads k old us last) (append-nil ts) h;
  weight = λ k. omega arith;
}

pub put_more : (g : Goal) (put : List Goal) (old mid new : List Work)
    → PutsMore (λ k. goal_trees k put) old mid → new ≡ mid ++ work.Prove g ∷ []
    → PutsMore (λ k. goal_trees k (g ∷ put)) old new
put_more g put old mid new w is = record {
  builds = λ k ts last h.
      subst (λ (ws : List Work). Leads k ws ts last) (sym is)
      (pushed k mid (work.Prove g) (λ us. us ≡ last) ts
      (w.builds k (ts ++ goal_tree k g ∷ []) last
      (subst (λ (us : List ProofTree). Leads k old us last)
      (sym (append_assoc ts (goal_tree k g ∷ []) (goal_trees k put))) h)));
  weight = λ k.
      let e : stack_weight k new ≡ stack_weight k mid + weight k (work.Prove g) =
      ap (stack_weight k) is ∙ stack_weight-push k mid (work.Prove g) in
      omega (arith, e, w.weight k);
}

-- a label, and goals before it

pub put_cite : (l : Label) (n : ℕ) (parts : List Goal) (old mid new : List Work)
    → mid ≡ old ++ work.Cite l n ∷ [] → n ≡ length parts
    → PutsMore (λ k. goal_trees k parts) mid new
    → PutsOn (λ k. cite (label_token k l) (goal_trees k parts)) old new
put_cite l n parts old mid new is count w = record {
  builds = λ k ts last h.
      w.builds k ts last
      (subst (λ (ws : List Work). Leads k ws (ts ++ goal_trees k parts) last) (sym is)
      (pushed k old (work.Cite l n) (λ us. us ≡ last) (ts ++ goal_trees k parts)
      (subst (λ (us : List ProofTree). Leads k old us last)
      (sym (cited_exactly (label_token k l) n ts (goal_trees k parts)
      (count ∙ sym (length-goals k parts)))) h)));
  weight = λ k.
      let e : stack_weight k mid ≡ stack_weight k old + 1 =
      ap (stack_weight k) is ∙ stack_weight-push k old (work.Cite l n) in
      let s : size_below (forest_of (goal_trees k parts)) ≡ size_of_all (goal_trees k parts) =
      size_below-of (goal_trees k parts) in
      omega (arith, e, s, w.weight k);
}

pub put_leaf : (l : Label) (old new : List Work) → new ≡ old ++ work.Cite l 0 ∷ []
    → PutsOn (λ k. cite (label_token k l) []) old new
put_leaf l old new is = put_cite l 0 [] old new new is refl (put_none new)

pub on_ok : {A E : Type 0} {P Q : Type 0} (r : Result A E) → (P → Q) → OnOk r P → OnOk r Q
on_ok (Ok a) f h = f h
on_ok (Err e) f h = tt

-- one step

pub taken_cite : (l : Label) (n : ℕ) (stack : List Work) (old new : Listing)
    → new.serial ≡ old.serial → trees_of new ≡ with_cited (label_token old.serial l) n (trees_of old)
    → IsTaken (work.Cite l n) stack stack old new
taken_cite l n stack old new serial trees = record {
  serial = serial;
  builds = λ last h.
      subst (λ (us : List ProofTree). Leads old.serial stack us last) (sym trees) h;
  weight = omega arith;
}

pub taken_leaf : (l : Label) (w : Work) (stack : List Work) (old new : Listing)
    → ((after : List ProofTree → Type 0) (ts : List ProofTree) → before_work old.serial w after ts
    → after (ts ++ cite (label_token old.serial l) [] ∷ []))
    → 0 < weight old.serial w
    → new.serial ≡ old.serial → trees_of new ≡ with_cited (label_token old.serial l) 0 (trees_of old)
    → IsTaken w stack stack old new
taken_leaf l w stack old new means heavy serial trees = record {
  serial = serial;
  builds = λ last h.
      subst (λ (us : List ProofTree). Leads old.serial stack us last)
      (sym (trees ∙ cited_alone (label_token old.serial l) (trees_of old)))
      (means (λ us. Leads old.serial stack us last) (trees_of old) h);
  weight = omega (arith, heavy);
}

pub taken_goal : (g : Goal) (tree : ℕ → ProofTree) (stack new : List Work) (table : Listing)
    → ((k : ℕ) → goal_tree k g ≡ tree k) → PutsOn tree stack new
    → IsTaken (work.Prove g) stack new table table
taken_goal g tree stack new table means w = record {
  serial = refl;
  builds = λ last h.
      w.builds table.serial (trees_of table) last
      (subst (λ (t : ProofTree). Leads table.serial stack ((trees_of table) ++ t ∷ []) last)
      (means table.serial) h);
  weight =
      let s : size_of (goal_tree table.serial g) ≡ size_of (tree table.serial) =
      ap size_of (means table.serial) in
      omega (arith, s, w.weight table.serial);
}

-- the goal that a pattern is one: its proof is repeated, or split and kept

has_label : (tree : ProofTree) → 0 < size_of tree
has_label (proof_node label trees) = omega arith

pub repeated_syntax : (p : Bor Pattern) (stack : List Work) (old new : Listing)
    → Builds (λ k. syntax_tree (own_labels k) p.now ∷ []) old new
    → IsSyntaxTaken p stack stack old new
repeated_syntax p stack old new b = record {
  serial = b.0;
  builds = λ last h.
      subst (λ (us : List ProofTree). Leads old.serial stack us last) (sym b.1) h;
  weight = omega (arith, has_label (syntax_tree (own_labels old.serial) p.now));
}

pub kept_syntax : (p : Bor Pattern) (old mid new : List Work) (table : Listing)
    → mid ≡ old ++ work.Keep p ∷ []
    → PutsOn (λ k. syntax_tree (own_labels k) p.now) mid new
    → IsSyntaxTaken p old new table table
kept_syntax p old mid new table is w =
    let k : ℕ = table.serial in
    let ts : List ProofTree = trees_of table in
    let tree : ProofTree = syntax_tree (own_labels k) p.now in record {
      serial = refl;
      builds = λ last h.
          w.builds k ts last
          (subst (λ (ws : List Work). Leads k ws (ts ++ tree ∷ []) last) (sym is)
          (pushed k old (work.Keep p) (λ us. us ≡ last) (ts ++ tree ∷ []) ((ts, refl), h)));
      weight =
          let e : stack_weight k mid ≡ stack_weight k old + 1 =
          ap (stack_weight k) is ∙ stack_weight-push k old (work.Keep p) in
          omega (arith, e, w.weight k);
    }

pub same_table : (p : Bor Pattern) (stack new : List Work) (old table : Listing) → table ≡ old
    → IsSyntaxTaken p stack new table table → IsSyntaxTaken p stack new old table
same_table p stack new old table same taken =
    subst (λ (l : Listing). IsSyntaxTaken p stack new l table) same taken

-- what is left to be done after one step

ready_before : (k : ℕ) (w : Work) (after : List ProofTree → Type 0) (ts : List ProofTree)
    → before_work k w after ts → IsReady k w ts
ready_before k (work.Prove g) after ts h = tt
ready_before k (work.Cite l n) after ts h = tt
ready_before k (work.Keep p) after ts h = h.0

pub next_is_ready : (k : ℕ) (w : Work) (before stack : List Work) (ts last : List ProofTree)
    → before ≡ stack ++ w ∷ [] → Leads k before ts last → IsReady k w ts
next_is_ready k w before stack ts last is h =
    ready_before k w (before_works k stack (λ us. us ≡ last)) ts
    (popped k stack w (λ us. us ≡ last) ts
    (subst (λ (ws : List Work). Leads k ws ts last) is h))

pub left_next : (w : Work) (before stack new : List Work) (table table' : Listing)
    (last : List ProofTree) → before ≡ stack ++ w ∷ [] → IsTaken w stack new table table'
    → Leads table.serial before (trees_of table) last → Leads table'.serial new (trees_of table') last
left_next w before stack new table table' last is taken h =
    subst (λ (k : ℕ). Leads k new (trees_of table') last) (sym taken.serial)
    (taken.builds last
    (popped table.serial stack w (λ us. us ≡ last) (trees_of table)
    (subst (λ (ws : List Work). Leads table.serial ws (trees_of table) last) is h)))

pub left_smaller : (w : Work) (before stack new : List Work) (table table' : Listing)
    → before ≡ stack ++ w ∷ [] → IsTaken w stack new table table'
    → stack_weight table'.serial new < stack_weight table.serial before
left_smaller w before stack new table table' is taken =
    let e : stack_weight table.serial before
    ≡ stack_weight table.serial stack + weight table.serial w =
    ap (stack_weight table.serial) is ∙ stack_weight-push table.serial stack w in
    let s : stack_weight table'.serial new ≡ stack_weight table.serial new =
    ap (λ (k : ℕ). stack_weight k new) taken.serial in
    omega (arith, e, s, taken.weight)
