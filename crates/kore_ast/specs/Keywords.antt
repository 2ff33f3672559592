-- Which declaration a word begins. Only the clauses of private functions cite this.
use Rattle.std.specs.Prelude.{ℕ, true, false, List, codes, if◌then◌else◌}
use Rattle.std.specs.Str.{bytes_eq}
use Rattle.kore_ast.specs.declared.reader.Keyword.{Keyword}
use Rattle.kore_ast.specs.declared.reader.Keyword.TheVariants as keyword

abbrev pub keyword_at : List ℕ → Keyword
keyword_at n =
    if bytes_eq n (codes "import") then keyword.Import
    else (if bytes_eq n (codes "sort") then keyword.Sort false
    else (if bytes_eq n (codes "hooked-sort") then keyword.Sort true
    else (if bytes_eq n (codes "symbol") then keyword.Symbol false
    else (if bytes_eq n (codes "hooked-symbol") then keyword.Symbol true
    else (if bytes_eq n (codes "alias") then keyword.Alias
    else (if bytes_eq n (codes "axiom") then keyword.Axiom
    else (if bytes_eq n (codes "claim") then keyword.Claim
    else keyword.Nothing)))))))
