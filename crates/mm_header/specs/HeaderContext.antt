-- What the header declares, and what is active after it.
use Rattle.std.specs.Prelude.{false, List, [], ◌∷◌, ◌++◌, map, fold, None}
use Rattle.std.specs.List.{flat_map}
use Rattle.mm_text.specs.Bytes.{Token, has_token}
use Rattle.mm_database.specs.Frames.{label_of, Scope, Frame, frame_of}
use Rattle.mm_database.specs.Database.{Context, with_tokens, with_token, with_apart, with_frame}
use Rattle.mm_header.specs.Header.{Row, header_rows}
use Rattle.mm_header.specs.HeaderText.{constants_text, variables_text}
use Rattle.mm_header.specs.HeaderRows.{expression_of, header_types, premises, words_of}

-- what is active at the `$a` of a row
abbrev pub row_scope : Row → Scope
row_scope r = record {
  variables = has_token (words_of variables_text);
  hypotheses = header_types ++ premises r;
  apart = fold (λ pairs pair. with_apart pairs (pair.0 ∷ (pair.1 ∷ []))) (λ a b. false) r.apart;
}

abbrev pub frame_of_row : Row → Frame
frame_of_row r = frame_of (row_scope r) r.label (expression_of r.statement)

-- the labels of a row, those of its hypotheses first
abbrev pub row_labels : Row → List Token
row_labels r = map label_of (premises r) ++ r.label ∷ []

unfoldable pub header_labels : List Token
header_labels = map label_of header_types ++ flat_map row_labels header_rows

-- what is declared after the header, and what is active there
unfoldable pub header_context : Context
header_context = record {
  constants = with_tokens (λ t. false) (words_of constants_text);
  variables = with_tokens (λ t. false) (words_of variables_text);
  labels = fold with_token (λ t. false) header_labels;
  frames = fold (λ table r. with_frame table r.label (frame_of_row r)) (λ t. None) header_rows;
  scope = record {
    variables = with_tokens (λ t. false) (words_of variables_text);
    hypotheses = header_types;
    apart = λ a b. false;
  };
  blocks = [];
}
