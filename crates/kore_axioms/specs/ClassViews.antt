-- The class that a borrowed class of the program stands for.
use Rattle.kore_shapes.specs.Views.{plain_rewriting}
use Rattle.kore_shapes.specs.StatementViews.{plain_statement}
use Rattle.kore_axioms.specs.AxiomClasses.{AxiomClass as ClassOfTree, refused, orders_sorts}
use Rattle.kore_axioms.specs.AxiomClasses.{rewrites, equates, passed_over}
use Rattle.kore_axioms.specs.declared.classes.AxiomClass.{AxiomClass}
use Rattle.kore_axioms.specs.declared.classes.AxiomClass.TheVariants as class
use Rattle.kore_axioms.specs.Views.{fault_number}

abbrev pub plain_class : AxiomClass → ClassOfTree
plain_class (class.Refused f) = refused (fault_number f)
plain_class class.OrdersSorts = orders_sorts
plain_class (class.Rewrites w) = rewrites (plain_rewriting w)
plain_class (class.Equates e) = equates (plain_statement e)
plain_class class.PassedOver = passed_over
