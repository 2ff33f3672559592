-- Small databases that a renderer writes, judged by the definition of the first fault.
use Rattle.std.specs.Prelude.{◌≡◌, ℕ, List, ◌++◌, Some, None, codes}
use Rattle.mm_text.specs.FaultKinds.{fault}
use Rattle.mm_header.specs.HeaderText.{header_bytes}
use Rattle.mm_database.specs.ComputedFault.{first_fault}

-- the declarations of a sort and of two symbols
abbrev pub names_text : List ℕ
names_text =
    codes "$c s:S $.\nn.0 $a #Sort s:S $.\n$c f:a $.\n"
    ++ codes "n.1 $a #Pattern f:a $.\n$c f:f $.\nn.2 $a #Pattern f:f $.\n"

-- an axiom
abbrev pub axiom_text : List ℕ
axiom_text = codes "t.0 $a |- ( \\app f:f f:a ) $.\n"

-- a lemma that cites the axiom
abbrev pub lemma_text : List ℕ
lemma_text =
    codes "t.1 $p |- ( \\ev ( \\app f:f f:a ) ) $= ( n.2 n.1 w.app w.ev t.0 ev.1 mp ) "
    ++ codes "ABCZHDEHFG $.\n"

-- a lemma with two variables and a hypothesis, one that cites it for the symbol, and one whose
-- proof has a variable that the lemma does not have
abbrev pub hypothesis_block : List ℕ
hypothesis_block =
    codes "${\n$v x:0 $.\nx.0.0 $f #Var x:0 $.\n$v m:0 $.\n"
    ++ codes "m.0.0 $f #Pattern m:0 $.\n$d x:0 m:0 $.\n"
    ++ codes "e.0.0 $e |- ( \\imp x:0 m:0 ) $.\nt.0 $p |- ( \\imp ( \\next x:0 ) ( \\next m:0 ) ) "
    ++ codes "$= ( w.var next.in ) ADBCE $.\n$}\n"

abbrev pub citing_block : List ℕ
citing_block =
    codes "${\n$v x:0 $.\nx.1.0 $f #Var x:0 $.\ne.1.0 $e |- ( \\imp x:0 f:a ) $.\n"
    ++ codes "t.1 $p |- ( \\imp ( \\next x:0 ) ( \\next f:a ) ) $= ( n.1 t.0 ) ACBD $.\n"
    ++ codes "$}\n"

abbrev pub variable_block : List ℕ
variable_block =
    codes "${\n$v m:3 $.\nm.2.3 $f #Pattern m:3 $.\n"
    ++ codes "t.2 $p |- \\top $= ( m.2.3 w.imp w.top p.1 top mp ) AAABBZCAADCGCBECGDFF $.\n$}\n"

-- an instance of a pattern: the variable does not occur in its first part; in its second part it is
-- free and then bound
abbrev pub instance_block : List ℕ
instance_block =
    codes "${\n$v x:0 $.\nx.3.0 $f #Var x:0 $.\n$v x:1 $.\n"
    ++ codes "x.3.1 $f #Var x:1 $.\n$v m:0 $.\nm.3.0 $f #Pattern m:0 $.\n"
    ++ codes "$d x:0 x:1 $.\n$d x:0 x:1 m:0 $.\nt.3 $p |- ( \\imp ( \\all x:0 s:S ( \\imp ( \\ex "
    ++ codes "x:1 s:S ( \\app x:1 m:0 ) ) ( \\app x:0 ( \\all x:0 s:S ( \\fun x:0 s:S ) ) ) ) ) ( "
    ++ codes "\\imp ( \\fun f:a s:S ) ( \\imp ( \\ex x:1 s:S ( \\app x:1 m:0 ) ) ( \\app f:a ( "
    ++ codes "\\all x:0 s:S ( \\fun x:0 s:S ) ) ) ) ) ) $= ( w.var w.app n.0 w.ex w.fun w.all "
    ++ codes "w.imp n.1 fr.d su.f su.v fr.allb su.app su.imp inst ) "
    ++ codes "BDCEBFGZADZTFHZAFIZEZJKSKUBEZJAFSUCUDSKASKASALMTUBUBKKAKANUBKAUAAFOMPQR $.\n$}\n"

-- after the header, of 5968 bytes, there is no fault; without the axiom that it cites, the proof of
-- the lemma has a text that does not name steps
pub record RenderedCases : Type 0 where
  pub stated : first_fault (header_bytes ++ (names_text ++ (axiom_text ++ lemma_text))) ≡ None
  pub blocks : first_fault (header_bytes
      ++ (names_text
      ++ (hypothesis_block ++ (citing_block ++ (variable_block ++ instance_block))))) ≡ None
  pub uncited : first_fault (header_bytes ++ (names_text ++ lemma_text)) ≡ Some (fault 12 6064)
