-- The required tokens of a pattern's spelling, wherever they are, spell the pattern with the places
-- of these tokens.
use Rattle.std.proofs.Common.{◌≡◌, ℕ, Bool, ◌+◌, ◌==◌, ◌&&◌, IsTrue, List, [], ◌∷◌, length, Some}
use Rattle.std.proofs.Common.{refl, ap, ◌∙◌}
use Rattle.kore_text.specs.declared.names.Op.{Op}
use Rattle.kore_text.specs.declared.names.Binder.{Binder}
use Rattle.kore_text.specs.declared.names.Built.TheVariants.{Connective, Binding, Value, Fold}
use Rattle.kore_text.specs.Trees.{SortTree, sort_parameter, sort_applied, SortTrees, no_sorts}
use Rattle.kore_text.specs.Trees.{sort_then, sort_count, PatternTree, element_variable}
use Rattle.kore_text.specs.Trees.{set_variable, string, symbol_applied, connected, binder_applied}
use Rattle.kore_text.specs.Trees.{value_written, folded, PatternTrees, no_patterns, pattern_then}
use Rattle.kore_text.specs.Trees.{pattern_count}
use Rattle.kore_text.specs.TokenStream.{KoreToken, identifier, set_identifier, builtin}
use Rattle.kore_text.specs.TokenStream.{string_token, mark, Stream}
use Rattle.kore_text.specs.Grammar.{Requirement, placed, any, provided, TakesTokens, Spelling}
use Rattle.kore_text.specs.Grammar.{listed, more_listed, takes, binder_sorts, binds_sets}
use Rattle.kore_text.specs.Grammar.{is_variable_tree, spell_sort, spell_sorts, spell_pattern}
use Rattle.kore_text.specs.Grammar.{spell_patterns}
use Rattle.kore_print.specs.TokenText.{token_text}
use Rattle.kore_print.specs.Reading.{unplaced_sort, unplaced_sorts, unplaced, unplaced_patterns}
use Rattle.kore_print.specs.PrintLaws.{CanStand}
use Rattle.kore_print.proofs.SpelledStreams.{stream_of}
use Rattle.kore_print.proofs.Unplacing.{sort-counts, pattern-counts, variables, foldables}

-- the conditions among the requirements hold
abbrev pub Holds : List Requirement → Type 0
Holds [] = Unit {0}
Holds (provided b ∷ ws) = IsTrue b × Holds ws
Holds (placed p t ∷ ws) = Holds ws
Holds (any t ∷ ws) = Holds ws

pub stand-holds : (ws : List Requirement) (n : ℕ) → CanStand n ws → Holds ws
stand-holds [] n h = tt
stand-holds (provided b ∷ ws) n h = (h.0, stand-holds ws n h.1)
stand-holds (placed p t ∷ ws) n h = stand-holds ws _ h.2
stand-holds (any t ∷ ws) n h = stand-holds ws _ h.2

-- the requirements of a tree, from a place and before other requirements, spell the tree with other
-- places
pub record Settled {T : Type 0} (spell : T → Spelling) (bare : T → T) (x : T) (k : List Requirement)
    (at : ℕ) : Type 0 where
  pub to : T
  pub same : bare to ≡ bare x
  pub rest : ℕ
  pub holds : Holds k
  pub spelled : (w : List Requirement) (e : Stream) → TakesTokens w (stream_of rest k) e
      → TakesTokens (spell to w) (stream_of at (spell x k)) e

-- the place after a token
abbrev behind : ℕ → KoreToken → ℕ
behind at t = at + length (token_text t)

abbrev in_braces : SortTrees → Spelling
in_braces ss k = listed (spell_sorts ss) 125 k

abbrev more_in_braces : SortTrees → Spelling
more_in_braces ss k = more_listed (spell_sorts ss) 125 k

abbrev in_parentheses : Bool → PatternTrees → Spelling
in_parentheses b ps k = listed (spell_patterns b ps) 41 k

abbrev more_in_parentheses : Bool → PatternTrees → Spelling
more_in_parentheses b ps k = more_listed (spell_patterns b ps) 41 k

both-same : {A B C : Type 0} (f : A → B → C) (a b : A) (c d : B) → a ≡ b → c ≡ d → f a c ≡ f b d
both-same f a b c d h k = ap (λ x. f x c) h ∙ ap (f b) k

mutual
  settled-sort : (s : SortTree) (k : List Requirement) (at : ℕ) → Holds (spell_sort s k)
      → Settled spell_sort unplaced_sort s k at
  settled-sort (sort_parameter p n) k at h = record {
    to = sort_parameter at n;
    same = refl;
    rest = behind at (identifier n);
    holds = h;
    spelled = λ w e g. (refl, refl, g);
  }
  settled-sort (sort_applied p n ss) k at h =
      let i : ℕ = behind (behind at (identifier n)) (mark 123) in
      let a : Settled in_braces unplaced_sorts ss k i = settled-sorts ss k i h in
      record {
        to = sort_applied at n a.to;
        same = ap (sort_applied 0 n) a.same;
        rest = a.rest;
        holds = a.holds;
        spelled = λ w e g. (refl, refl, (refl, a.spelled w e g));
      }

  settled-sorts : (ss : SortTrees) (k : List Requirement) (at : ℕ) → Holds (in_braces ss k)
      → Settled in_braces unplaced_sorts ss k at
  settled-sorts no_sorts k at h = record {
    to = no_sorts;
    same = refl;
    rest = behind at (mark 125);
    holds = h;
    spelled = λ w e g. (refl, g);
  }
  settled-sorts (sort_then s ss) k at h =
      let a : Settled spell_sort unplaced_sort s (more_in_braces ss k) at =
      settled-sort s (more_in_braces ss k) at h in
      let b : Settled more_in_braces unplaced_sorts ss k a.rest =
      settled-more-sorts ss k a.rest a.holds in
      record {
        to = sort_then a.to b.to;
        same = both-same sort_then _ _ _ _ a.same b.same;
        rest = b.rest;
        holds = b.holds;
        spelled = λ w e g. a.spelled (more_in_braces b.to w) e (b.spelled w e g);
      }

  settled-more-sorts : (ss : SortTrees) (k : List Requirement) (at : ℕ)
      → Holds (more_in_braces ss k) → Settled more_in_braces unplaced_sorts ss k at
  settled-more-sorts no_sorts k at h = record {
    to = no_sorts;
    same = refl;
    rest = behind at (mark 125);
    holds = h;
    spelled = λ w e g. (refl, g);
  }
  settled-more-sorts (sort_then s ss) k at h =
      let i : ℕ = behind at (mark 44) in
      let a : Settled spell_sort unplaced_sort s (more_in_braces ss k) i =
      settled-sort s (more_in_braces ss k) i h in
      let b : Settled more_in_braces unplaced_sorts ss k a.rest =
      settled-more-sorts ss k a.rest a.holds in
      record {
        to = sort_then a.to b.to;
        same = both-same sort_then _ _ _ _ a.same b.same;
        rest = b.rest;
        holds = b.holds;
        spelled = λ w e g. (refl, a.spelled (more_in_braces b.to w) e (b.spelled w e g));
      }

counts-kept : (o : Op) (ss ts : SortTrees) (ps qs : PatternTrees)
    → unplaced_sorts ts ≡ unplaced_sorts ss → unplaced_patterns qs ≡ unplaced_patterns ps
    → IsTrue (takes o (sort_count ss) (pattern_count ps))
    → IsTrue (takes o (sort_count ts) (pattern_count qs))
counts-kept o ss ts ps qs a b h =
    both-same (takes o) _ _ _ _ (sort-counts ts ss a) (pattern-counts qs ps b) ∙ h

binder-kept : (o : Binder) (ss ts : SortTrees) (x y : PatternTree)
    → unplaced_sorts ts ≡ unplaced_sorts ss → unplaced y ≡ unplaced x
    → IsTrue ((sort_count ss == binder_sorts o) && is_variable_tree (binds_sets o) x)
    → IsTrue ((sort_count ts == binder_sorts o) && is_variable_tree (binds_sets o) y)
binder-kept o ss ts x y a b h =
    both-same (λ (n : ℕ) (v : Bool). (n == binder_sorts o) && v) _ _ _ _ (sort-counts ts ss a)
    (variables (binds_sets o) y x b) ∙ h

three-same : (o : Binder) (ss ts : SortTrees) (x y p q : PatternTree) → ss ≡ ts → x ≡ y → p ≡ q
    → binder_applied 0 o ss x p ≡ binder_applied 0 o ts y q
three-same o ss ts x y p q a b c =
    ap (λ z. binder_applied 0 o z x p) a ∙ ap (λ z. binder_applied 0 o ts z p) b
    ∙ ap (binder_applied 0 o ts y) c

mutual
  pub settled-pattern : (b : Bool) (p : PatternTree) (k : List Requirement) (at : ℕ)
      → Holds (spell_pattern b p k) → Settled (spell_pattern b) unplaced p k at
  settled-pattern b (element_variable p n s) k at h =
      let i : ℕ = behind (behind at (identifier n)) (mark 58) in
      let a : Settled spell_sort unplaced_sort s k i = settled-sort s k i h in
      record {
        to = element_variable at n a.to;
        same = ap (element_variable 0 n) a.same;
        rest = a.rest;
        holds = a.holds;
        spelled = λ w e g. (refl, refl, (refl, a.spelled w e g));
      }
  settled-pattern b (set_variable p n s) k at h =
      let i : ℕ = behind (behind at (set_identifier n)) (mark 58) in
      let a : Settled spell_sort unplaced_sort s k i = settled-sort s k i h in
      record {
        to = set_variable at n a.to;
        same = ap (set_variable 0 n) a.same;
        rest = a.rest;
        holds = a.holds;
        spelled = λ w e g. (refl, refl, (refl, a.spelled w e g));
      }
  settled-pattern b (string p t) k at h = record {
    to = string at t;
    same = refl;
    rest = behind at (string_token t);
    holds = h.1;
    spelled = λ w e g. (h.0, (refl, refl, g));
  }
  settled-pattern b (symbol_applied p n ss ps) k at h =
      let i : ℕ = behind (behind at (identifier n)) (mark 123) in
      let r : List Requirement = any (mark 40) ∷ in_parentheses b ps k in
      let a : Settled in_braces unplaced_sorts ss r i = settled-sorts ss r i h in
      let j : ℕ = behind a.rest (mark 40) in
      let c : Settled (in_parentheses b) unplaced_patterns ps k j =
      settled-patterns b ps k j a.holds in
      record {
        to = symbol_applied at n a.to c.to;
        same = both-same (symbol_applied 0 n) _ _ _ _ a.same c.same;
        rest = c.rest;
        holds = c.holds;
        spelled =
            λ w e g. (
              refl,
              refl,
              (
                refl,
                a.spelled (any (mark 40) ∷ in_parentheses b c.to w) e (refl, c.spelled w e g),
              ),
            );
      }
  settled-pattern b (connected p o ss ps) k at h =
      let i : ℕ = behind (behind at (builtin (Some (Connective o)))) (mark 123) in
      let r : List Requirement = any (mark 40) ∷ in_parentheses b ps k in
      let a : Settled in_braces unplaced_sorts ss r i = settled-sorts ss r i h.1 in
      let j : ℕ = behind a.rest (mark 40) in
      let c : Settled (in_parentheses b) unplaced_patterns ps k j =
      settled-patterns b ps k j a.holds in
      record {
        to = connected at o a.to c.to;
        same = both-same (connected 0 o) _ _ _ _ a.same c.same;
        rest = c.rest;
        holds = c.holds;
        spelled = λ w e g. (
          counts-kept o ss a.to ps c.to a.same c.same h.0,
          (
            refl,
            refl,
            (
              refl,
              a.spelled (any (mark 40) ∷ in_parentheses b c.to w) e (refl, c.spelled w e g),
            ),
          ),
        );
      }
  settled-pattern b (binder_applied p o ss x q) k at h =
      let i : ℕ = behind (behind at (builtin (Some (Binding o)))) (mark 123) in
      let t : List Requirement = any (mark 41) ∷ k in
      let u : List Requirement = any (mark 44) ∷ spell_pattern b q t in
      let r : List Requirement = any (mark 40) ∷ spell_pattern b x u in
      let a : Settled in_braces unplaced_sorts ss r i = settled-sorts ss r i h.1 in
      let j : ℕ = behind a.rest (mark 40) in
      let c : Settled (spell_pattern b) unplaced x u j = settled-pattern b x u j a.holds in
      let l : ℕ = behind c.rest (mark 44) in
      let d : Settled (spell_pattern b) unplaced q t l = settled-pattern b q t l c.holds in
      record {
        to = binder_applied at o a.to c.to d.to;
        same = three-same o _ _ _ _ _ _ a.same c.same d.same;
        rest = behind d.rest (mark 41);
        holds = d.holds;
        spelled = λ w e g. (
          binder-kept o ss a.to x c.to a.same c.same h.0,
          (
            refl,
            refl,
            (
              refl,
              a.spelled (any (mark 40)
                  ∷ spell_pattern b c.to
                  (any (mark 44) ∷ spell_pattern b d.to (any (mark 41) ∷ w))) e (
                    refl,
                    c.spelled (any (mark 44) ∷ spell_pattern b d.to (any (mark 41) ∷ w)) e
                        (refl, d.spelled (any (mark 41) ∷ w) e (refl, g)),
                  ),
            ),
          ),
        );
      }
  settled-pattern b (value_written p s t place) k at h =
      let i : ℕ = behind (behind at (builtin (Some Value))) (mark 123) in
      let r : List Requirement =
      any (mark 125) ∷ any (mark 40) ∷ placed place (string_token t) ∷ any (mark 41) ∷ k in
      let a : Settled spell_sort unplaced_sort s r i = settled-sort s r i h in
      let j : ℕ = behind (behind a.rest (mark 125)) (mark 40) in
      record {
        to = value_written at a.to t j;
        same = ap (λ z. value_written 0 z t 0) a.same;
        rest = behind (behind j (string_token t)) (mark 41);
        holds = a.holds;
        spelled = λ w e g. (
          refl,
          refl,
          (
            refl,
            a.spelled
                (any (mark 125) ∷ any (mark 40) ∷ placed j (string_token t) ∷ any (mark 41) ∷ w) e
                (refl, (refl, (refl, refl, (refl, g)))),
          ),
        );
      }
  settled-pattern b (folded p left q) k at h =
      let i : ℕ =
      behind (behind (behind (behind at (builtin (Some (Fold left)))) (mark 123)) (mark 125))
      (mark 40) in
      let a : Settled (spell_pattern b) unplaced q (any (mark 41) ∷ k) i =
      settled-pattern b q (any (mark 41) ∷ k) i h.1 in
      record {
        to = folded at left a.to;
        same = ap (folded 0 left) a.same;
        rest = behind a.rest (mark 41);
        holds = a.holds;
        spelled = λ w e g. (
          foldables a.to q a.same ∙ h.0,
          (refl, refl, (refl, (refl, (refl, a.spelled (any (mark 41) ∷ w) e (refl, g))))),
        );
      }

  settled-patterns : (b : Bool) (ps : PatternTrees) (k : List Requirement) (at : ℕ)
      → Holds (in_parentheses b ps k) → Settled (in_parentheses b) unplaced_patterns ps k at
  settled-patterns b no_patterns k at h = record {
    to = no_patterns;
    same = refl;
    rest = behind at (mark 41);
    holds = h;
    spelled = λ w e g. (refl, g);
  }
  settled-patterns b (pattern_then p ps) k at h =
      let a : Settled (spell_pattern b) unplaced p (more_in_parentheses b ps k) at =
      settled-pattern b p (more_in_parentheses b ps k) at h in
      let c : Settled (more_in_parentheses b) unplaced_patterns ps k a.rest =
      settled-more-patterns b ps k a.rest a.holds in
      record {
        to = pattern_then a.to c.to;
        same = both-same pattern_then _ _ _ _ a.same c.same;
        rest = c.rest;
        holds = c.holds;
        spelled = λ w e g. a.spelled (more_in_parentheses b c.to w) e (c.spelled w e g);
      }

  settled-more-patterns : (b : Bool) (ps : PatternTrees) (k : List Requirement) (at : ℕ)
      → Holds (more_in_parentheses b ps k)
      → Settled (more_in_parentheses b) unplaced_patterns ps k at
  settled-more-patterns b no_patterns k at h = record {
    to = no_patterns;
    same = refl;
    rest = behind at (mark 41);
    holds = h;
    spelled = λ w e g. (refl, g);
  }
  settled-more-patterns b (pattern_then p ps) k at h =
      let i : ℕ = behind at (mark 44) in
      let a : Settled (spell_pattern b) unplaced p (more_in_parentheses b ps k) i =
      settled-pattern b p (more_in_parentheses b ps k) i h in
      let c : Settled (more_in_parentheses b) unplaced_patterns ps k a.rest =
      settled-more-patterns b ps k a.rest a.holds in
      record {
        to = pattern_then a.to c.to;
        same = both-same pattern_then _ _ _ _ a.same c.same;
        rest = c.rest;
        holds = c.holds;
        spelled = λ w e g. (refl, a.spelled (more_in_parentheses b c.to w) e (c.spelled w e g));
      }
