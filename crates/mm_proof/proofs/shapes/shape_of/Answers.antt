use Rattle.std.proofs.Common.{refl, rules}
use Rattle.ml_pat.specs.Patterns.{Bot, Top, Imp, And, Or, Equal, Member, App, Not, Next, Ev, AtSort}
use Rattle.ml_pat.specs.Patterns.{Fun, Ex, All}
use Rattle.mm_proof.proofs.shapes.shape_of.Goals as goal

pub returns-in-Bot : goal.returns-in-Bot
returns-in-Bot c = (Bot, search rules, refl)

pub returns-in-Top : goal.returns-in-Top
returns-in-Top c = (Top, search rules, refl)

pub returns-in-Imp : goal.returns-in-Imp
returns-in-Imp c = (Imp, search rules, refl)

pub returns-in-And : goal.returns-in-And
returns-in-And c = (And, search rules, refl)

pub returns-in-Or : goal.returns-in-Or
returns-in-Or c = (Or, search rules, refl)

pub returns-in-Equal : goal.returns-in-Equal
returns-in-Equal c = (Equal, search rules, refl)

pub returns-in-Member : goal.returns-in-Member
returns-in-Member c = (Member, search rules, refl)

pub returns-in-App : goal.returns-in-App
returns-in-App c = (App, search rules, refl)

pub returns-in-Not : goal.returns-in-Not
returns-in-Not c = (Not, search rules, refl)

pub returns-in-Next : goal.returns-in-Next
returns-in-Next c = (Next, search rules, refl)

pub returns-in-Ev : goal.returns-in-Ev
returns-in-Ev c = (Ev, search rules, refl)

pub returns-in-At : goal.returns-in-At
returns-in-At c = (AtSort, search rules, refl)

pub returns-in-Fun : goal.returns-in-Fun
returns-in-Fun c = (Fun, search rules, refl)

pub returns-in-Ex : goal.returns-in-Ex
returns-in-Ex c = (Ex, search rules, refl)

pub returns-in-All : goal.returns-in-All
returns-in-All c = (All, search rules, refl)
