-- What the words, labels and goals of a writer mean.
use Rattle.std.specs.Prelude.{ℕ, List, [], ◌∷◌, ◌++◌, flat_map, map, codes}
use Rattle.mm_text.specs.Bytes.{Token}
use Rattle.mm_database.specs.Proofs.{ProofTree}
use Rattle.mm_proof.specs.Tokens.{pattern_tokens, name_of, object_token, meta_token}
use Rattle.mm_proof.specs.Labels.{name_label, statement_label, object_label, meta_label}
use Rattle.mm_proof.specs.Labels.{premise_label, own_labels}
use Rattle.mm_proof.specs.Trees.{cite, syntax_tree, fresh_tree, unchanged_tree, substitution_tree}
use Rattle.mm_proof.specs.Trees.{predicate_tree}
use Rattle.mm_proof.specs.declared.words.Label.{Label}
use Rattle.mm_proof.specs.declared.words.Label.TheVariants as label
use Rattle.mm_proof.specs.declared.words.Word.{Word}
use Rattle.mm_proof.specs.declared.words.Word.TheVariants as word
use Rattle.mm_proof.specs.declared.texts.TextPart.{TextPart}
use Rattle.mm_proof.specs.declared.texts.TextPart.TheVariants as part
use Rattle.mm_proof.specs.declared.works.Goal.{Goal}
use Rattle.mm_proof.specs.declared.works.Goal.TheVariants as goal

-- the token of a label, in the block of a statement
abbrev pub label_token : ℕ → Label → Token
label_token k (label.Row t) = t.now
label_token k (label.Form prefix name) = prefix.now ++ name.now
label_token k (label.Bound prefix name) = prefix.now ++ (name.now ++ codes "b")
label_token k (label.Declared i) = name_label i
label_token k (label.Object i) = object_label k i
label_token k (label.Meta i) = meta_label k i
label_token k (label.Premise j) = premise_label k j
label_token k (label.Stated i) = statement_label i

-- the token of a word, with these names, in the block of a statement
abbrev pub word_token : List Token → ℕ → Word → Token
word_token names k (word.Fixed t) = t.now
word_token names k (word.Connective name) = codes "\\" ++ name.now
word_token names k (word.Name i) = name_of names i
word_token names k (word.Object i) = object_token i
word_token names k (word.Meta i) = meta_token i
word_token names k (word.Label l) = label_token k l

-- the tokens of parts of a text
abbrev pub part_tokens : List Token → ℕ → TextPart → List Token
part_tokens names k (part.One w) = word_token names k w ∷ []
part_tokens names k (part.Pattern p) = pattern_tokens names p.now

abbrev pub text_tokens : List Token → ℕ → List TextPart → List Token
text_tokens names k parts = flat_map (part_tokens names k) parts

-- the proof of a goal, in the block of a statement
abbrev pub goal_tree : ℕ → Goal → ProofTree
goal_tree k (goal.Leaf l) = cite (label_token k l) []
goal_tree k (goal.Syntax p) = syntax_tree (own_labels k) p.now
goal_tree k (goal.Fresh x p) = fresh_tree (own_labels k) x.0 p.now
goal_tree k (goal.Unchanged x u p) = unchanged_tree (own_labels k) x.0 u.now p.now
goal_tree k (goal.Substituted x u p r) = substitution_tree (own_labels k) x.0 u.now p.now r.now
goal_tree k (goal.Predicate p) = predicate_tree (own_labels k) p.now

abbrev pub goal_trees : ℕ → List Goal → List ProofTree
goal_trees k goals = map (goal_tree k) goals
