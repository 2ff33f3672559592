use Rattle.std.proofs.Common.{◌∙◌, ap, sym, option_map, Some, ℕ}
use Rattle.pat_matrix.specs.Heads.{root}
use Rattle.pat_matrix.specs.Positions.{subject_at}
use Rattle.match_tree.specs.TestView.{next_place}
use Rattle.match_tree.proofs.TestLaws.{next_found, next_other}
use Rattle.match_tree.proofs.testing.Test.next.Goals as goal

pub returns-in-Some-clause-next : goal.returns-in-Some-clause-next
returns-in-Some-clause-next g c =
    ap (option_map (next_place c.args.self.now))
    (ap (subject_at c.args.subjects.now) (sym c.deref.ensures.value) ∙ c.term_at-term.ensures)
    ∙ ap (λ (j : ℕ). Some j)
    (next_found c.args.self.now.heads.keys c.args.self.now.branches.items
    (root c.term_at-term.result.now) c.in-Some.i c.index.result.now c.args.self.now.other
    c.requires.places (sym c.find_head.ensures.found ∙ c.in-Some.is) c.index.ensures)

pub returns-in-None-clause-next : goal.returns-in-None-clause-next
returns-in-None-clause-next g c =
    ap (option_map (next_place c.args.self.now))
    (ap (subject_at c.args.subjects.now) (sym c.deref.ensures.value) ∙ c.term_at-term.ensures)
    ∙ ap (λ (j : ℕ). Some j)
    (next_other c.args.self.now.heads.keys c.args.self.now.branches.items
    (root c.term_at-term.result.now) c.args.self.now.other c.requires.places
    (sym c.find_head.ensures.found ∙ c.in-None.is))
