-- Names of parts of patterns, and the sentences of patterns with them.
use Rattle.std.proofs.Common.{◌≡◌, ℕ, ◌+◌, ◌<◌, ◌≤◌, zero, suc, List, [], ◌∷◌, ◌++◌, Option, Some}
use Rattle.std.proofs.Common.{None}
use Rattle.std.proofs.Common.{length, map, take, get_or, refl, sym, ◌∙◌, ap, arith}
use Rattle.std.proofs.Common.{append-nil, Bool, true, false}
use Rattle.std.specs.Prelude.{if◌then◌else◌, ◌==◌}
use Rattle.std.proofs.lemmas.Bool.{eqb-true, false≢true}
use Rattle.std.proofs.Common.{eq-eqb}
use Rattle.std.proofs.lemmas.List.{take_more, map-append}
use Rattle.ml_pat.specs.Patterns.{Pattern}
use Rattle.ml_pat.specs.Patterns as logic
use Rattle.term_core.specs.Patterns.{Pattern as RulePattern, Patterns as RulePatterns, variable}
use Rattle.term_core.specs.Patterns.{domain_value, application, injection, call, no_pattern}
use Rattle.term_core.specs.Patterns.{more_patterns}
use Rattle.term_core.specs.Instances.{patterns}
use Rattle.term_core.specs.RulePatterns.{plain_pattern}
use Rattle.term_core.specs.declared.rule_patterns.RulePat.{RulePat}
use Rattle.rule_core.specs.NamedParts.{Name}
use Rattle.rule_core.specs.declared.signature.Signature.{Signature}
use Rattle.ml_image.specs.Images.{both, image_of, applied, injection_image, shifted}
use Rattle.ml_image.specs.Images.{renamed, all_renamed}
use Rattle.ml_image.specs.HasImages.{AreNamesBelow}
use Rattle.ml_image.specs.NamedSides.{whole, of_whole, way_in, at_way, of_child, named_part}
use Rattle.ml_image.specs.NamedSides.{named_parts, left_sentence, applied_sides}
use Rattle.ml_image.specs.Premises.{renamed_name}
use Rattle.ml_image.specs.PartNames.{part_name, part_names, part_sentence, names_renamed}
use Rattle.ml_image.specs.PartNames.{left_renamed, part_renamed, sides_renamed, IsConjoined}
use Rattle.ml_image.specs.PartNames.{with_name}
use Rattle.ml_image.specs.Sentences.{Sentence, term, symbol, apply, and, sentence_image}
use Rattle.ml_image.specs.Gained.{HasGained}
use Rattle.ml_image.proofs.NamingLaws.{gained-sentence}
use Rattle.term_core.specs.PatternLists.{plain_patterns}
use Rattle.ml_image.specs.declared.naming.PartName.{PartName}

-- ---- lists of names, one by one

at_way-append : (o : Option (List ℕ)) (n : Name) (ms ns : List Name)
    → at_way o n (ms ++ ns) ≡ at_way o n ms ++ ns
at_way-append None n ms ns = refl
at_way-append (Some way) n ms ns = refl

pub of_child-append : (k : ℕ) (ms ns : List Name)
    → of_child k (ms ++ ns) ≡ of_child k ms ++ of_child k ns
of_child-append k [] ns = refl
of_child-append k (n ∷ ms) ns =
    ap (at_way (way_in k n.place) n) (of_child-append k ms ns)
    ∙ at_way-append (way_in k n.place) n (of_child k ms) (of_child k ns)

-- the first names of a list, and one more
pub parts_next : (names : List PartName) (i : ℕ) (d : PartName) → i < length names
    → part_names (take (i + 1) names)
    ≡ part_names (take i names) ++ part_name (get_or names i d) ∷ []
parts_next names i d low =
    ap part_names (take_more names i d low)
    ∙ map-append part_name (take i names) (get_or names i d ∷ [])

-- the names in a child, and those of one more name
pub inside_next : (k : ℕ) (names : List PartName) (i : ℕ) (d : PartName) → i < length names
    → of_child k (part_names (take (i + 1) names))
    ≡ of_child k (part_names (take i names))
    ++ at_way (way_in k (get_or names i d).way.now) (part_name (get_or names i d)) []
inside_next k names i d low =
    ap (of_child k) (parts_next names i d low)
    ∙ of_child-append k (part_names (take i names)) (part_name (get_or names i d) ∷ [])

-- one more name is in the child
pub inside_more : (k : ℕ) (names : List PartName) (i : ℕ) (d m : PartName) (inside new : List
    PartName)
    (way : List ℕ) → i < length names
    → part_names inside ≡ of_child k (part_names (take i names))
    → Some way ≡ way_in k (get_or names i d).way.now
    → new ≡ inside ++ m ∷ [] → part_name m ≡ record (part_name (get_or names i d)) { place = way }
    → part_names new ≡ of_child k (part_names (take (i + 1) names))
inside_more k names i d m inside new way low before found is one =
    ap part_names is ∙ map-append part_name inside (m ∷ [])
    ∙ ap (λ (x : Name). part_names inside ++ x ∷ []) one
    ∙ ap (λ (ms : List Name). ms ++ record (part_name (get_or names i d)) { place = way } ∷ [])
    before
    ∙ ap (λ (o : Option (List ℕ)).
    of_child k (part_names (take i names)) ++ at_way o (part_name (get_or names i d)) [])
    found
    ∙ sym (inside_next k names i d low)

-- one more name is not
pub inside_same : (k : ℕ) (names : List PartName) (i : ℕ) (d : PartName) (inside : List PartName)
    → i < length names
    → part_names inside ≡ of_child k (part_names (take i names))
    → None ≡ way_in k (get_or names i d).way.now
    → part_names inside ≡ of_child k (part_names (take (i + 1) names))
inside_same k names i d inside low before found =
    before ∙ sym (append-nil (of_child k (part_names (take i names))))
    ∙ ap (λ (o : Option (List ℕ)).
    of_child k (part_names (take i names)) ++ at_way o (part_name (get_or names i d)) [])
    found
    ∙ sym (inside_next k names i d low)

-- ---- variables that keep their numbers

-- a renaming that keeps each variable
abbrev pub KeepsAll : (ℕ → ℕ) → Type 0
KeepsAll g = (x : ℕ) → g x ≡ x

pub from_zero : KeepsAll (λ x. 0 + x)
from_zero x = omega arith

mutual
  pub renamed-kept : (g : ℕ → ℕ) → KeepsAll g → (p : RulePattern) → renamed g p ≡ p
  renamed-kept g keeps (variable x) = ap variable (keeps x)
  renamed-kept g keeps (domain_value s v) = refl
  renamed-kept g keeps (application f ps) = ap (application f) (all_renamed-kept g keeps ps)
  renamed-kept g keeps (injection a b p) = ap (injection a b) (renamed-kept g keeps p)
  renamed-kept g keeps (call f ss ps) = ap (call f ss) (all_renamed-kept g keeps ps)

  pub all_renamed-kept : (g : ℕ → ℕ) → KeepsAll g → (ps : RulePatterns) → all_renamed g ps ≡ ps
  all_renamed-kept g keeps no_pattern = refl
  all_renamed-kept g keeps (more_patterns p ps) =
      ap (λ (q : RulePattern). more_patterns q (all_renamed g ps)) (renamed-kept g keeps p)
      ∙ ap (more_patterns p) (all_renamed-kept g keeps ps)

pub shifted-zero : (p : RulePattern) → shifted 0 p ≡ p
shifted-zero p = renamed-kept (λ x. 0 + x) from_zero p

-- ---- the names of a child, and of the whole

at_way-renamed : (o : Option (List ℕ)) (g : ℕ → ℕ) (n : Name) (names : List Name)
    → at_way o (renamed_name g n) (names_renamed g names) ≡ names_renamed g (at_way o n names)
at_way-renamed None g n names = refl
at_way-renamed (Some way) g n names = refl

pub of_child-renamed : (k : ℕ) (g : ℕ → ℕ) (names : List Name)
    → of_child k (names_renamed g names) ≡ names_renamed g (of_child k names)
of_child-renamed k g [] = refl
of_child-renamed k g (n ∷ names) =
    ap (at_way (way_in k n.place) (renamed_name g n)) (of_child-renamed k g names)
    ∙ at_way-renamed (way_in k n.place) g n (of_child k names)

whole-append : (way : List ℕ) (n : Name) (ms ns : List Name)
    → whole way n (ms ++ ns) ≡ whole way n ms ++ ns
whole-append [] n ms ns = refl
whole-append (i ∷ way) n ms ns = refl

pub of_whole-append : (ms ns : List Name) → of_whole (ms ++ ns) ≡ of_whole ms ++ of_whole ns
of_whole-append [] ns = refl
of_whole-append (n ∷ ms) ns =
    ap (whole n.place n) (of_whole-append ms ns)
    ∙ whole-append n.place n (of_whole ms) (of_whole ns)

pub names-kept : (g : ℕ → ℕ) → KeepsAll g → (names : List Name) → names_renamed g names ≡ names
names-kept g keeps [] = refl
names-kept g keeps (n ∷ names) =
    ap (λ (x : ℕ). record n { variable = x } ∷ names_renamed g names) (keeps n.variable)
    ∙ ap (λ (ns : List Name). n ∷ ns) (names-kept g keeps names)

pub rest_below : (k : ℕ) (n : Name) (names : List Name) → AreNamesBelow k (n ∷ names)
    → AreNamesBelow k names
rest_below k n names all = λ i d low. all (suc i) d (omega (arith, low))

pub more_below : (k : ℕ) (n : Name) (names : List Name) → n.variable < k → AreNamesBelow k names
    → AreNamesBelow k (n ∷ names)
more_below k n names one all zero d low = one
more_below k n names one all (suc i) d low = all i d (omega (arith, low))

at_way-below : (o : Option (List ℕ)) (k : ℕ) (n : Name) (names : List Name) → n.variable < k
    → AreNamesBelow k names → AreNamesBelow k (at_way o n names)
at_way-below None k n names one all = all
at_way-below (Some way) k n names one all = more_below k (record n { place = way }) names one all

pub of_child-below : (i k : ℕ) (names : List Name) → AreNamesBelow k names
    → AreNamesBelow k (of_child i names)
of_child-below i k [] all = all
of_child-below i k (n ∷ names) all =
    at_way-below (way_in i n.place) k n (of_child i names) (all 0 n (omega arith))
    (of_child-below i k names (rest_below k n names all))

pub below_more : (m n : ℕ) (names : List Name) → m ≤ n → AreNamesBelow m names
    → AreNamesBelow n names
below_more m n names le all = λ i d low. omega (arith, le, all i d low)

-- ---- sentences without names

mutual
  pub plain_left : (sig : Signature) (tokens : List (List ℕ)) (p : RulePattern)
      → sentence_image sig tokens (left_sentence [] p) ≡ image_of sig tokens p
  plain_left sig tokens (variable x) = refl
  plain_left sig tokens (domain_value s v) = refl
  plain_left sig tokens (application f ps) = plain_sides sig tokens 0 (symbol f) ps
  plain_left sig tokens (injection a b p) =
      ap (both logic.app (injection_image sig tokens a b)) (plain_left sig tokens p)
  plain_left sig tokens (call f ss ps) = refl

  pub plain_sides : (sig : Signature) (tokens : List (List ℕ)) (k : ℕ) (head : Sentence)
      (ps : RulePatterns)
      → sentence_image sig tokens (applied_sides [] k head ps)
      ≡ applied sig tokens (sentence_image sig tokens head) ps
  plain_sides sig tokens k head no_pattern = refl
  plain_sides sig tokens k head (more_patterns p ps) =
      plain_sides sig tokens (k + 1) (apply head (left_sentence [] p)) ps
      ∙ ap (λ (o : Option Pattern).
      applied sig tokens (both logic.app (sentence_image sig tokens head) o) ps)
      (plain_left sig tokens p)

-- ---- sentences with names

pub left_parts : (names : List Name) (p : RulePattern)
    → left_sentence names p ≡ named_parts (part_sentence names p) (of_whole names)
left_parts names (variable x) = refl
left_parts names (domain_value s v) = refl
left_parts names (application f ps) = refl
left_parts names (injection a b p) = refl
left_parts names (call f ss ps) = refl

pub named_parts-append : (s : Sentence) (ms ns : List Name)
    → named_parts s (ms ++ ns) ≡ named_parts (named_parts s ms) ns
named_parts-append s [] ns = refl
named_parts-append s (n ∷ ms) ns = named_parts-append (named_part s n) ms ns

sides_push : (names : List Name) (ps : List RulePattern) (k : ℕ) (head : Sentence) (p : RulePattern)
    → applied_sides names k head (patterns (ps ++ p ∷ []))
    ≡ apply (applied_sides names k head (patterns ps)) (left_sentence (of_child (k + length ps)
    names) p)
sides_push names [] k head p =
    let same : k ≡ k + 0 = omega arith in
    ap (λ (i : ℕ). apply head (left_sentence (of_child i names) p)) same
sides_push names (q ∷ ps) k head p =
    let same : k + 1 + length ps ≡ k + suc (length ps) = omega arith in
    sides_push names ps (k + 1) (apply head (left_sentence (of_child k names) q)) p
    ∙ ap (λ (i : ℕ). apply
    (applied_sides names (k + 1) (apply head (left_sentence (of_child k names) q)) (patterns ps))
    (left_sentence (of_child i names) p)) same

-- one more argument
pub sides_next : (names : List Name) (head : Sentence) (g : RulePattern → RulePattern)
    (args : List RulePat) (i : ℕ) (a : RulePat) → i < length args → a ≡ get_or args i a
    → applied_sides names 0 head (patterns (map g (map plain_pattern (take (i + 1) args))))
    ≡ apply (applied_sides names 0 head (patterns (map g (map plain_pattern (take i args)))))
    (left_sentence (of_child i names) (g (plain_pattern a)))
sides_next names head g args i a low at =
    let front : map g (map plain_pattern (take (i + 1) args))
    ≡ map g (map plain_pattern (take i args)) ++ g (plain_pattern a) ∷ [] =
    ap (λ (qs : List RulePat). map g (map plain_pattern qs))
    (take_more args i a low ∙ ap (λ (q : RulePat). take i args ++ q ∷ []) (sym at))
    ∙ ap (map g) (map-append plain_pattern (take i args) (a ∷ []))
    ∙ map-append g (map plain_pattern (take i args)) (plain_pattern a ∷ []) in
    let many : 0 + length (map g (map plain_pattern (take i args))) ≡ i =
    ap (λ (n : ℕ). 0 + n) (as_many g (map plain_pattern (take i args))
    ∙ as_many plain_pattern (take i args) ∙ taken args i low) ∙ omega arith in
    ap (λ (qs : List RulePattern). applied_sides names 0 head (patterns qs)) front
    ∙ sides_push names (map g (map plain_pattern (take i args))) 0 head (g (plain_pattern a))
    ∙ ap (λ (n : ℕ). apply
    (applied_sides names 0 head (patterns (map g (map plain_pattern (take i args)))))
    (left_sentence (of_child n names) (g (plain_pattern a)))) many
  where
    as_many : {A B : Type 0} (f : A → B) (xs : List A) → length (map f xs) ≡ length xs
    as_many f [] = refl
    as_many f (x ∷ xs) = ap suc (as_many f xs)

    taken : {A : Type 0} (xs : List A) (n : ℕ) → n < length xs → length (take n xs) ≡ n
    taken [] n lt = absurd (omega (arith, lt))
    taken (x ∷ xs) zero lt = refl
    taken (x ∷ xs) (suc n) lt = ap suc (taken xs n (omega (arith, lt)))

pub renamed_list : (g : ℕ → ℕ) (ps : List RulePattern)
    → all_renamed g (patterns ps) ≡ patterns (map (renamed g) ps)
renamed_list g [] = refl
renamed_list g (p ∷ ps) = ap (more_patterns (renamed g p)) (renamed_list g ps)

-- ---- images, one step at a time

-- one more argument
pub side_next : (sig : Signature) (old new : List (List ℕ)) (g : ℕ → ℕ) (f : ℕ) (names : List Name)
    (args : List RulePat) (i : ℕ) (a : RulePat) (made p : Pattern) → HasGained sig old new
    → i < length args → a ≡ get_or args i a
    → sentence_image sig old (sides_renamed g names f (plain_patterns (take i args))) ≡ Some made
    → sentence_image sig new (left_renamed g (of_child i names) (plain_pattern a)) ≡ Some p
    → sentence_image sig new (sides_renamed g names f (plain_patterns (take (i + 1) args)))
    ≡ Some (logic.app made p)
side_next sig old new g f names args i a made p gained low at before argument =
    let kept : sentence_image sig new (sides_renamed g names f (plain_patterns (take i args))) ≡
    Some
    made =
    gained-sentence sig old new (sides_renamed g names f (plain_patterns (take i args))) gained made
    before in
    let listed : (n : ℕ) → all_renamed g (plain_patterns (take n args))
    ≡ patterns (map (renamed g) (map plain_pattern (take n args))) =
    λ n. renamed_list g (map plain_pattern (take n args)) in
    let ns : List Name = names_renamed g names in
    let next : sides_renamed g names f (plain_patterns (take (i + 1) args)) ≡ apply
    (sides_renamed g names f (plain_patterns (take i args)))
    (left_sentence (of_child i ns) (renamed g (plain_pattern a))) =
    ap (applied_sides ns 0 (symbol f)) (listed (i + 1))
    ∙ sides_next ns (symbol f) (renamed g) args i a low at
    ∙ ap (λ (ps : RulePatterns). apply (applied_sides ns 0 (symbol f) ps)
    (left_sentence (of_child i ns) (renamed g (plain_pattern a)))) (sym (listed i)) in
    let argument' : sentence_image sig new
    (left_sentence (of_child i ns) (renamed g (plain_pattern a))) ≡ Some p =
    ap (λ (ms : List Name). sentence_image sig new (left_sentence ms (renamed g (plain_pattern a))))
    (of_child-renamed i g names) ∙ argument in
    ap (sentence_image sig new) next
    ∙ ap (λ (o : Option Pattern). both logic.app o (sentence_image sig new
    (left_sentence (of_child i ns) (renamed g (plain_pattern a))))) kept
    ∙ ap (λ (o : Option Pattern). both logic.app (Some made) o) argument'

-- one more name of the whole pattern
pub conjoined_next : (g : ℕ → ℕ) (names : List PartName) (i : ℕ) (d : PartName) (p made new :
    Pattern)
    → i < length names → IsConjoined g (part_names (take i names)) p made
    → (get_or names i d).way.now ≡ []
    → new ≡ with_name g (get_or names i d) made
    → IsConjoined g (part_names (take (i + 1) names)) p new
conjoined_next g names i d p made new low before here is sig tokens s image =
    let n : PartName = get_or names i d in
    let next : of_whole (names_renamed g (part_names (take (i + 1) names)))
    ≡ of_whole (names_renamed g (part_names (take i names)))
    ++ of_whole (renamed_name g (part_name n) ∷ []) =
    ap (λ (ns : List Name). of_whole (names_renamed g ns)) (parts_next names i d low)
    ∙ ap of_whole (map-append (renamed_name g) (part_names (take i names)) (part_name n ∷ []))
    ∙ of_whole-append (names_renamed g (part_names (take i names)))
    (renamed_name g (part_name n) ∷ []) in
    let one : of_whole (renamed_name g (part_name n) ∷ []) ≡ renamed_name g (part_name n) ∷ [] =
    ap (λ (way : List ℕ). whole way (renamed_name g (part_name n)) []) here in
    let before' : Sentence = named_parts s (of_whole (names_renamed g (part_names (take i names))))
    in
    ap (λ (ns : List Name). sentence_image sig tokens (named_parts s ns))
    (next ∙ ap (λ (ns : List Name).
    of_whole (names_renamed g (part_names (take i names))) ++ ns) one)
    ∙ ap (sentence_image sig tokens) (named_parts-append s
    (of_whole (names_renamed g (part_names (take i names)))) (renamed_name g (part_name n) ∷ []))
    ∙ one_named sig tokens g (part_name n)
    (named_parts s (of_whole (names_renamed g (part_names (take i names))))) made
    (before sig tokens s image)
    ∙ ap (λ (q : Pattern). Some q) (sym is)
  where
    one_named : (sig : Signature) (tokens : List (List ℕ)) (g : ℕ → ℕ) (n : Name) (s : Sentence)
        (made : Pattern) → sentence_image sig tokens s ≡ Some made
        → sentence_image sig tokens (named_part s (renamed_name g n))
        ≡ Some (if n.first then logic.and (logic.var (g n.variable)) made
        else logic.and made (logic.var (g n.variable)))
    one_named sig tokens g n s made is = go n.first
      where
        go : (first : Bool) → sentence_image sig tokens
            (if first then and (term (variable (g n.variable))) s
            else and s (term (variable (g n.variable))))
            ≡ Some (if first then logic.and (logic.var (g n.variable)) made
            else logic.and made (logic.var (g n.variable)))
        go true = ap (both logic.and (Some (logic.var (g n.variable)))) is
        go false =
            ap (λ (o : Option Pattern). both logic.and o (Some (logic.var (g n.variable)))) is

-- one more name is not of the whole
pub conjoined_same : (g : ℕ → ℕ) (names : List PartName) (i : ℕ) (d : PartName) (p made : Pattern)
    → i < length names → IsConjoined g (part_names (take i names)) p made
    → ((get_or names i d).way.now ≡ [] → ⊥)
    → IsConjoined g (part_names (take (i + 1) names)) p made
conjoined_same g names i d p made low before inside sig tokens s image =
    let n : PartName = get_or names i d in
    let next : of_whole (names_renamed g (part_names (take (i + 1) names)))
    ≡ of_whole (names_renamed g (part_names (take i names))) =
    ap (λ (ns : List Name). of_whole (names_renamed g ns)) (parts_next names i d low)
    ∙ ap of_whole (map-append (renamed_name g) (part_names (take i names)) (part_name n ∷ []))
    ∙ of_whole-append (names_renamed g (part_names (take i names)))
    (renamed_name g (part_name n) ∷ [])
    ∙ ap (λ (ns : List Name). of_whole (names_renamed g (part_names (take i names))) ++ ns)
    (none n.way.now (renamed_name g (part_name n)) inside)
    ∙ append-nil (of_whole (names_renamed g (part_names (take i names)))) in
    ap (λ (ns : List Name). sentence_image sig tokens (named_parts s ns)) next
    ∙ before sig tokens s image
  where
    none : (way : List ℕ) (n : Name) → (way ≡ [] → ⊥) → whole way n [] ≡ []
    none [] n some = absurd (some refl)
    none (i ∷ way) n some = refl

-- without names of the whole, and with all of them
pub conjoined_none : (g : ℕ → ℕ) (p : Pattern) → IsConjoined g [] p p
conjoined_none g p sig tokens s image = image

-- ---- images without the names of the whole

pub left_image_of : (sig : Signature) (tokens : List (List ℕ)) (g : ℕ → ℕ) (names : List Name)
    (p : RulePattern) (part made : Pattern)
    → sentence_image sig tokens (part_renamed g names p) ≡ Some part → IsConjoined g names part made
    → sentence_image sig tokens (left_renamed g names p) ≡ Some made
left_image_of sig tokens g names p part made image all =
    ap (sentence_image sig tokens) (left_parts (names_renamed g names) (renamed g p))
    ∙ all sig tokens (part_renamed g names p) image

pub injection_image_of : (sig : Signature) (tokens : List (List ℕ)) (g : ℕ → ℕ) (a b : ℕ)
    (names : List Name) (p : RulePattern) (head below : Pattern) → injection_image sig tokens a b ≡
    Some head
    → sentence_image sig tokens (left_renamed g (of_child 0 names) p) ≡ Some below
    → sentence_image sig tokens (part_renamed g names (injection a b p)) ≡ Some (logic.app head
    below)
injection_image_of sig tokens g a b names p head below is_head is_below =
    ap (λ (o : Option Pattern). both logic.app o (sentence_image sig tokens
    (left_sentence (of_child 0 (names_renamed g names)) (renamed g p)))) is_head
    ∙ ap (λ (ns : List Name).
    both logic.app (Some head) (sentence_image sig tokens (left_sentence ns (renamed g p))))
    (of_child-renamed 0 g names)
    ∙ ap (both logic.app (Some head)) is_below

-- ---- numbers of variables

pub variable_below : (n : ℕ) (names : List PartName) (i : ℕ) (d : PartName) → i < length names
    → AreNamesBelow n (part_names names) → (get_or names i d).var < n
variable_below n [] i d low all = absurd (omega (arith, low))
variable_below n (m ∷ names) zero d low all = all 0 (part_name m) (omega arith)
variable_below n (m ∷ names) (suc i) d low all =
    variable_below n names i d (omega (arith, low)) (rest_below n (part_name m) (part_names names)
    all)

-- ---- empty lists

pub none_there : {A : Type 0} (xs : List A) (b : Bool) → b ≡ (length xs == 0) → b ≡ true → xs ≡ []
none_there [] b e t = refl
none_there (x ∷ xs) b e t =
    let none : length (x ∷ xs) ≡ 0 = eqb-true (length (x ∷ xs)) 0 (sym e ∙ t) in
    absurd (omega (arith, none))

pub some_there : {A : Type 0} (xs : List A) (b : Bool) → b ≡ (length xs == 0) → b ≡ false
    → xs ≡ [] → ⊥
some_there [] b e f is = false≢true (sym f ∙ e ∙ eq-eqb 0 0 refl)
some_there (x ∷ xs) b e f is = let no : ⊥ = cc in no

pub without_names : (sig : Signature) (tokens : List (List ℕ)) (g : ℕ → ℕ) (names : List PartName)
    (p : RulePattern) (made : Pattern) → names ≡ []
    → image_of sig tokens (renamed g p) ≡ Some made
    → sentence_image sig tokens (left_renamed g (part_names names) p) ≡ Some made
without_names sig tokens g names p made none is =
    ap (λ (ms : List PartName). sentence_image sig tokens (left_renamed g (part_names ms) p)) none
    ∙ plain_left sig tokens (renamed g p) ∙ is

-- with a renaming that keeps each variable
pub left-kept : (g : ℕ → ℕ) → KeepsAll g → (names : List Name) (p : RulePattern)
    → left_renamed g names p ≡ left_sentence names p
left-kept g keeps names p =
    ap (λ (ns : List Name). left_sentence ns (renamed g p)) (names-kept g keeps names)
    ∙ ap (left_sentence names) (renamed-kept g keeps p)

pub sides-kept : (g : ℕ → ℕ) → KeepsAll g → (names : List Name) (f : ℕ) (ps : RulePatterns)
    → sides_renamed g names f ps ≡ applied_sides names 0 (symbol f) ps
sides-kept g keeps names f ps =
    ap (λ (ns : List Name). applied_sides ns 0 (symbol f) (all_renamed g ps))
    (names-kept g keeps names)
    ∙ ap (applied_sides names 0 (symbol f)) (all_renamed-kept g keeps ps)
