-- Words and frames as the code holds them.
use Rattle.std.specs.Prelude.{List, reverse, map}
use Rattle.ml_pat.specs.Patterns.{Nullary, Unary, Binary, Sorted, Quantifier, Pattern}
use Rattle.ml_pat.specs.Patterns as shapes
use Rattle.pattern_reader.specs.Words as words
use Rattle.pattern_reader.specs.Machine as frames
use Rattle.pattern_reader.specs.declared.words.Nullary.{Nullary as CodeNullary}
use Rattle.pattern_reader.specs.declared.words.Nullary.TheVariants as nullaries
use Rattle.pattern_reader.specs.declared.words.Unary.{Unary as CodeUnary}
use Rattle.pattern_reader.specs.declared.words.Unary.TheVariants as unaries
use Rattle.pattern_reader.specs.declared.words.Binary.{Binary as CodeBinary}
use Rattle.pattern_reader.specs.declared.words.Binary.TheVariants as binaries
use Rattle.pattern_reader.specs.declared.words.Sorted.{Sorted as CodeSorted}
use Rattle.pattern_reader.specs.declared.words.Sorted.TheVariants as sorteds
use Rattle.pattern_reader.specs.declared.words.Quantifier.{Quantifier as CodeQuantifier}
use Rattle.pattern_reader.specs.declared.words.Quantifier.TheVariants as quantifiers
use Rattle.pattern_reader.specs.declared.words.Word.{Word as CodeWord}
use Rattle.pattern_reader.specs.declared.words.Word.TheVariants as code
use Rattle.pattern_reader.specs.declared.frames.Frame.{Frame as CodeFrame}
use Rattle.pattern_reader.specs.declared.frames.Frame.TheVariants as kept

abbrev pub nullary_of : CodeNullary → Nullary
nullary_of nullaries.Bot = shapes.Bot
nullary_of nullaries.Top = shapes.Top

abbrev pub unary_of : CodeUnary → Unary
unary_of unaries.Not = shapes.Not
unary_of unaries.Next = shapes.Next
unary_of unaries.Ev = shapes.Ev

abbrev pub binary_of : CodeBinary → Binary
binary_of binaries.Imp = shapes.Imp
binary_of binaries.And = shapes.And
binary_of binaries.Or = shapes.Or
binary_of binaries.Equal = shapes.Equal
binary_of binaries.Member = shapes.Member
binary_of binaries.App = shapes.App

abbrev pub sorted_of : CodeSorted → Sorted
sorted_of sorteds.Fun = shapes.Fun
sorted_of sorteds.At = shapes.AtSort

abbrev pub quantifier_of : CodeQuantifier → Quantifier
quantifier_of quantifiers.Ex = shapes.Ex
quantifier_of quantifiers.All = shapes.All

abbrev pub word_of : CodeWord → words.Word
word_of code.Open = words.opening
word_of code.Close = words.closing
word_of (code.Alone c) = words.alone (nullary_of c)
word_of (code.One c) = words.one (unary_of c)
word_of (code.Two c) = words.two (binary_of c)
word_of (code.AtSort c) = words.at_sort (sorted_of c)
word_of (code.Binder c) = words.binder (quantifier_of c)
word_of (code.Object x) = words.object x.0
word_of (code.SortName s) = words.sort_name s.0
word_of (code.ConstantName c) = words.constant_name c.0

abbrev pub words_of : List CodeWord → List words.Word
words_of = map word_of

abbrev pub frame_of : CodeFrame → frames.Frame
frame_of kept.Before = frames.before
frame_of (kept.After p) = frames.after p
frame_of kept.Opened = frames.opened
frame_of (kept.OneDue c) = frames.one_due (unary_of c)
frame_of (kept.OneRead c p) = frames.one_read (unary_of c) p
frame_of (kept.TwoDue c) = frames.two_due (binary_of c)
frame_of (kept.SecondDue c p) = frames.second_due (binary_of c) p
frame_of (kept.TwoRead c p q) = frames.two_read (binary_of c) p q
frame_of (kept.AtSortDue c) = frames.at_sort_due (sorted_of c)
frame_of (kept.SortDue c p) = frames.sort_due (sorted_of c) p
frame_of (kept.AtSortRead c p s) = frames.at_sort_read (sorted_of c) p s.0
frame_of (kept.BinderDue c) = frames.binder_due (quantifier_of c)
frame_of (kept.BinderSortDue c x) = frames.binder_sort_due (quantifier_of c) x.0
frame_of (kept.BodyDue c x s) = frames.body_due (quantifier_of c) x.0 s.0
frame_of (kept.BodyRead c x s p) = frames.body_read (quantifier_of c) x.0 s.0 p

-- frames of which the last is the upper one, the upper ones first
abbrev pub frames_of : List CodeFrame → List frames.Frame
frames_of fs = reverse (map frame_of fs)

-- the frame on top of such frames
abbrev pub stack_of : List CodeFrame → CodeFrame → frames.Stack
stack_of fs f = record { top = frame_of f; below = frames_of fs }
