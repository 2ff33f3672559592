-- What a faultless statement says, from what scopes hold, and what adding it does. Only clauses of
-- private functions cite these definitions.
use Rattle.std.specs.Prelude.{◌≡◌, ℕ, List, [], ◌∷◌, Option, Some, None, Result, Ok, Err}
use Rattle.mm_text.specs.Bytes.{Token}
use Rattle.mm_text.specs.FaultKinds.{bad_scope}
use Rattle.mm_text.specs.Reader.{words_of}
use Rattle.mm_frame.specs.Numbered.{NumberedHypothesis, NumberedFrame}
use Rattle.mm_frame.specs.PlainFrames.{plain_hypothesis}
use Rattle.mm_scope.specs.ScopeState.{ScopeState}
use Rattle.mm_scope.specs.StateFaults.{plain_stated, floating_in, stated_in, disjoint_in}
use Rattle.mm_scope.specs.StateFaults.{constants_fault, variables_fault}
use Rattle.mm_scope.specs.StateFrames.{IsFrameIn, Statement}
use Rattle.mm_scope.specs.StateSteps.{AddsConstants, AddsVariables, AddsHypothesis, AddsDisjoint}
use Rattle.mm_scope.specs.StateSteps.{AddsAssertion, OpensBlock, ClosesBlock}
use Rattle.mm_scope.specs.declared.forms.Keyword.{Keyword}
use Rattle.mm_scope.specs.declared.forms.Keyword.TheVariants.{Constants, Variables, Floating}
use Rattle.mm_scope.specs.declared.forms.Keyword.TheVariants.{Essential, Disjoint, Axiom, Theorem}
use Rattle.mm_scope.specs.declared.forms.Form.{Form}
use Rattle.mm_scope.specs.declared.forms.Form.TheVariants.{BlockStart, BlockEnd, Plain}
use Rattle.mm_scope.specs.declared.scopes.OpenBlock.{OpenBlock}
use Rattle.mm_scope.specs.declared.judge.Refusal.{Refusal}
use Rattle.mm_scope.specs.declared.judge.Refusal.TheVariants.{Fault}
use Rattle.mm_scope.specs.declared.declare.Said.{Said}
use Rattle.mm_database.specs.Frames.{essential}
use Rattle.mm_scope.specs.declared.declare.Said.TheVariants as code
use Rattle.mm_scope.specs.StatePlaces.{ArePlaced}

pub data Saying : Type 0 where
  opens : Saying
  closes : Saying
  names_constants : List Token → Saying
  names_variables : List Token → Saying
  supposes : NumberedHypothesis → Saying
  parts : List ℕ → Saying
  states : Statement → Saying

abbrev pub said_by : List ℕ → Said → Saying
said_by bytes code.Opens = opens
said_by bytes code.Closes = closes
said_by bytes (code.Constants tokens) = names_constants (words_of bytes tokens.now)
said_by bytes (code.Variables tokens) = names_variables (words_of bytes tokens.now)
said_by bytes (code.Hypothesis hyp) = supposes (plain_hypothesis hyp)
said_by bytes (code.Disjoint variables) = parts variables.items
said_by bytes (code.Assertion stated) = states (plain_stated stated)

abbrev pub or_saying : Option ℕ → Saying → Result Saying ℕ
or_saying None saying = Ok saying
or_saying (Some kind) saying = Err kind

abbrev pub OrFault : Option ℕ → Said → Result Said Refusal → Type 0
OrFault None said result = result ≡ Ok said
OrFault (Some kind) said result = result ≡ Err (Fault kind)

abbrev pub saying_floating : Result NumberedHypothesis ℕ → Result Saying ℕ
saying_floating (Ok h) = Ok (supposes h)
saying_floating (Err kind) = Err kind

abbrev pub saying_essential : Result Statement ℕ → Result Saying ℕ
saying_essential (Ok s) = Ok (supposes (essential s.label s.symbols))
saying_essential (Err kind) = Err kind

abbrev pub saying_disjoint : Result (List ℕ) ℕ → Result Saying ℕ
saying_disjoint (Ok variables) = Ok (parts variables)
saying_disjoint (Err kind) = Err kind

abbrev pub saying_states : Result Statement ℕ → Result Saying ℕ
saying_states (Ok s) = Ok (states s)
saying_states (Err kind) = Err kind

-- what a statement with a keyword says, or its fault
abbrev pub judged_plain : ScopeState → Keyword → List Token → List Token → Result Saying ℕ
judged_plain h Constants labels symbols =
    or_saying (constants_fault h labels symbols) (names_constants symbols)
judged_plain h Variables labels symbols =
    or_saying (variables_fault h labels symbols) (names_variables symbols)
judged_plain h Floating labels symbols = saying_floating (floating_in h labels symbols)
judged_plain h Essential labels symbols = saying_essential (stated_in h labels symbols)
judged_plain h Disjoint labels symbols = saying_disjoint (disjoint_in h labels symbols)
judged_plain h Axiom labels symbols = saying_states (stated_in h labels symbols)
judged_plain h Theorem labels symbols = saying_states (stated_in h labels symbols)

abbrev pub judged_end : List OpenBlock → Result Saying ℕ
judged_end [] = Err bad_scope
judged_end (block ∷ blocks) = Ok closes

abbrev pub judged_form : ScopeState → List ℕ → Form → Result Saying ℕ
judged_form h bytes BlockStart = Ok opens
judged_form h bytes BlockEnd = judged_end h.blocks
judged_form h bytes (Plain p) =
    judged_plain h p.keyword (words_of bytes p.labels.now) (words_of bytes p.symbols.now)

abbrev pub error_of : Result Saying ℕ → Option ℕ
error_of (Ok saying) = None
error_of (Err kind) = Some kind

-- what adding the statement does
abbrev pub Follows : ScopeState → ℕ → Saying → ScopeState → Type 0
Follows old at opens new = OpensBlock old at new
Follows old at closes new = (block : Option OpenBlock) × ClosesBlock old new block
Follows old at (names_constants tokens) new = AddsConstants old tokens new
Follows old at (names_variables tokens) new = AddsVariables old tokens new
Follows old at (supposes h) new = AddsHypothesis old h new
Follows old at (parts variables) new = AddsDisjoint old variables new
Follows old at (states s) new =
    (f : NumberedFrame) × (ArePlaced old → IsFrameIn old s f) × AddsAssertion old f new
