use Rattle.std.proofs.Common.{◌≡◌, ◌∙◌, ◌++◌, ◌+◌, ℕ, List, [], ◌∷◌, Result, Ok, Err, OnOk, codes}
use Rattle.std.specs.Fmt.{decimal}
use Rattle.drill_gen.specs.Drill.{line, rule_line}
use Rattle.drill_gen.proofs.text.push_rule_line.Goals as goal

-- the line, once its numbers are written
written : {T E : Type 0} (r : Result T E) (i : ℕ) (n m old new : List ℕ) → n ≡ decimal i
    → m ≡ decimal (i + 1)
    → OnOk r (new
    ≡ old
    ++ line (codes "axiom{} \\rewrites{SortS{}}(\\and{SortS{}}(st{}(c" ∷ n
    ∷ codes
    "{}(),X:SortInt{}),\\equals{SortBool{},SortS{}}(ge{}(X:SortInt{},\\dv{SortInt{}}(\"0\")),\\dv{SortBool{}}(\"true\"))),\\and{SortS{}}(st{}(c"
    ∷ m ∷ codes "{}(),add{}(X:SortInt{},\\dv{SortInt{}}(\"" ∷ n
    ∷ codes "\"))),\\top{SortS{}}())) []" ∷ [])) → OnOk r (new ≡ old ++ rule_line i)
written (Ok t) i n m old new e f h = h
    ∙ (λ k. old
    ++ line (codes "axiom{} \\rewrites{SortS{}}(\\and{SortS{}}(st{}(c" ∷ e k
    ∷ codes
    "{}(),X:SortInt{}),\\equals{SortBool{},SortS{}}(ge{}(X:SortInt{},\\dv{SortInt{}}(\"0\")),\\dv{SortBool{}}(\"true\"))),\\and{SortS{}}(st{}(c"
    ∷ f k ∷ codes "{}(),add{}(X:SortInt{},\\dv{SortInt{}}(\"" ∷ e k
    ∷ codes "\"))),\\top{SortS{}}())) []" ∷ []))
written (Err x) i n m old new e f h = tt

pub returns : goal.returns
returns c =
    written c.push_line.result c.args.i c.format-number.result.now c.format-next.result.now
    c.args.text.now.items c.push_line.new.text.items c.format-number.ensures.text
    c.format-next.ensures.text c.push_line.ensures
