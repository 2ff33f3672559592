-- The frame of an assertion.
use Rattle.std.specs.Prelude.{map}
use Rattle.mm_frame.specs.Numbered.{NumberedFrame}
use Rattle.mm_frame.specs.PlainFrames.{in_groups}
use Rattle.mm_verify.specs.declared.assertion.Assertion.{Assertion}
use Rattle.mm_verify.specs.Places.{symbol_of, symbols_in}
use Rattle.mm_verify.specs.StatementView.{statement_parts}
use Rattle.mm_verify.specs.Resolved.{hypotheses_of}

abbrev pub assertion_frame : Assertion → NumberedFrame
assertion_frame a = record {
  label = a.label.now;
  hypotheses = hypotheses_of a.wanted.items;
  apart = in_groups (map symbols_in a.apart.items);
  statement = map symbol_of (statement_parts a.conclusion);
}
