-- The form of a statement as it is read: its parts by the places of their tokens.
use Rattle.std.specs.Prelude.{ℕ, List}
use Rattle.mm_text.specs.Reader.{words_of}
use Rattle.mm_database.specs.Forms as forms
use Rattle.mm_database.specs.Forms.{plain, block_start, block_end}
use Rattle.mm_scope.specs.declared.forms.Keyword.{Keyword}
use Rattle.mm_scope.specs.declared.forms.Keyword.TheVariants.{Constants, Variables, Floating}
use Rattle.mm_scope.specs.declared.forms.Keyword.TheVariants.{Essential, Disjoint, Axiom, Theorem}
use Rattle.mm_scope.specs.declared.forms.Form.{Form}
use Rattle.mm_scope.specs.declared.forms.Form.TheVariants.{BlockStart, BlockEnd, Plain}

abbrev pub keyword_read : Keyword → forms.Keyword
keyword_read Constants = forms.declares_constants
keyword_read Variables = forms.declares_variables
keyword_read Floating = forms.types_variable
keyword_read Essential = forms.assumes
keyword_read Disjoint = forms.separates
keyword_read Axiom = forms.asserts
keyword_read Theorem = forms.proves

abbrev pub form_read : List ℕ → Form → forms.Form
form_read bytes BlockStart = block_start
form_read bytes BlockEnd = block_end
form_read bytes (Plain p) = plain (words_of bytes p.labels.now) (keyword_read p.keyword)
    (words_of bytes p.symbols.now) (words_of bytes p.proof.now)
