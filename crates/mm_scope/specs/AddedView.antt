-- What a statement adds, by its form.
use Rattle.mm_database.specs.Forms.{Keyword, declares_constants, declares_variables, types_variable}
use Rattle.mm_database.specs.Forms.{assumes, separates, asserts, proves, Form, block_start}
use Rattle.mm_database.specs.Forms.{block_end, plain}
use Rattle.mm_scope.specs.declared.declare.Added.{Added}
use Rattle.mm_scope.specs.declared.declare.Added.TheVariants as added

abbrev pub keyword_added : Keyword → Added
keyword_added declares_constants = added.Symbols
keyword_added declares_variables = added.Symbols
keyword_added types_variable = added.Hypothesis
keyword_added assumes = added.Hypothesis
keyword_added separates = added.Disjoint
keyword_added asserts = added.Assertion
keyword_added proves = added.Assertion

abbrev pub form_added : Form → Added
form_added block_start = added.Block
form_added block_end = added.Block
form_added (plain labels keyword symbols proof) = keyword_added keyword
