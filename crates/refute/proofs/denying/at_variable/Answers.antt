use Rattle.std.proofs.Common.{sym, ◌∙◌}
use Rattle.std.proofs.lemmas.Bool.{false≢true}
use Rattle.refute.proofs.Goals.{denied_by_goal, no_clash_alone, no_other_binding}
use Rattle.refute.proofs.denying.at_variable.Goals as goal
use Rattle.refute.proofs.denying.at_variable.Goals.{else-x-y-via-then-x-y+else-same}
use Rattle.refute.proofs.denying.at_variable.Goals.{else-x-y-via-else-x-y}

pub returns-then-same : goal.returns-then-same
returns-then-same c =
    denied_by_goal c.args.cx.now c.args.setting.now.given.hypothesis c.args.setting.now.goal
    c.args.x c.in-Binding.y c.args.term.now c.in-Binding.bound c.in-Binding.fact
    c.in_ok-fact-in-Binding.fact c.in-Binding.is c.requires.goal
    c.if-x-y.true (c.same.ensures.0 c.if-same.true)
    c.in_ok-fact-in-Binding.ensures

pub returns-else-x-y : goal.returns-else-x-y
returns-else-x-y c =
    elim c.else-x-y.branch [
      | else-x-y-via-then-x-y+else-same w ↦
          no_other_binding c.args.cx.now.program.sig.subsorts c.args.setting.now.goal c.args.x
          c.in-Binding.y c.args.term.now c.in-Binding.bound c.in-Binding.fact c.in-Binding.is
          (λ both. false≢true (sym w.if-same.false ∙ w.same.ensures.1 both.1))
      | else-x-y-via-else-x-y w ↦
          no_other_binding c.args.cx.now.program.sig.subsorts c.args.setting.now.goal c.args.x
          c.in-Binding.y c.args.term.now c.in-Binding.bound c.in-Binding.fact c.in-Binding.is
          (λ both. w.if-x-y.false both.0)
    ]

pub returns-in-Clash : goal.returns-in-Clash
returns-in-Clash c =
    no_clash_alone c.args.cx.now.program.sig.subsorts c.args.setting.now.goal c.args.x
    c.args.term.now c.in-Clash.is
