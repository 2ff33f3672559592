use Rattle.std.proofs.Common.{rules, ◌≡◌, None, List, [], ◌∷◌, ◌++◌, subst, sym, ap, ◌∙◌}
use Rattle.std.specs.Prelude.{Some, bytes_eq, if◌then◌else◌}
use Rattle.mm_text.specs.Bytes.{Token}
use Rattle.mm_frame.specs.EntriesView.{entry_word}
use Rattle.mm_frame.specs.declared.names.Name.{Name}
use Rattle.std.proofs.lemmas.Map.Text.{btree_map_updates_str}
use Rattle.mm_frame.specs.KnownNames.{name_in}
use Rattle.mm_frame.specs.KnownNames.{Renames}
use Rattle.mm_frame.specs.declared.entries.Entry.{Entry}
use Rattle.mm_frame.proofs.KnownEntries.{Known, entries-more}
use Rattle.mm_frame.proofs.names.Names.insert.Goals as goal

pub invariant_of-self-in-Ok-None : goal.invariant_of-self-in-Ok-None
invariant_of-self-in-Ok-None c =
    let entry : Entry = c.new.result in
    let before = c.args.self.now.entries.items in
    let items : c.push.new.self.items ≡ before ++ entry ∷ [] = search rules in
    let old = name_in c.args.self.now.ordered in
    let none : c.in-Ok-None.field-0 ≡ None = search rules in
    let is : entry_word entry ≡ c.args.word.now = c.new.ensures.word in
    record {
      known = subst (λ (es : List Entry). Known (name_in c.insert.new.self) es) (sym items)
          (entries-more (name_in c.args.self.now.ordered) (name_in c.insert.new.self) entry before
          (ap old is ∙ sym c.in-Ok-None.ensures.old ∙ none)
          (λ t. btree_map_updates_str c.args.word.now c.args.self.now.ordered c.insert.new.self _
          c.in-Ok-None.ensures.updates t
          ∙ ap (λ (w : Token). if bytes_eq w t then Some c.args.name else old t) (sym is)
          ∙ ap (λ (n : Name). if bytes_eq (entry_word entry) t then Some n else old t)
          (sym c.new.ensures.name)) c.args.self.now.known);
    }

pub returns-in-Ok-Some : goal.returns-in-Ok-Some
returns-in-Ok-Some c =
    λ t. btree_map_updates_str c.args.word.now c.args.self.now.ordered c.insert.new.self _
    c.in-Ok-Some.ensures.updates t

pub returns-in-Ok-None : goal.returns-in-Ok-None
returns-in-Ok-None c =
    let here : Renames (name_in c.args.self.now.ordered) c.args.word.now c.args.name
    (name_in c.insert.new.self) =
    λ t. btree_map_updates_str c.args.word.now c.args.self.now.ordered c.insert.new.self _
    c.in-Ok-None.ensures.updates t in
    let there : Renames (name_in c.args.self.now.ordered) c.args.word.now c.args.name
    (name_in c.put_last.new.self.ordered) =
    λ t. ap (λ m. name_in m t) c.put_last.ensures ∙ here t in
    search rules
