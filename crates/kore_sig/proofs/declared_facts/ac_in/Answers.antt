use Rattle.std.proofs.Common.{rules, ◌≡◌, ◌+◌, ◌<◌, ◌++◌, ◌∷◌, [], arith, ap, sym, ◌∙◌, List, ℕ}
use Rattle.std.proofs.Common.{map, take}
use Rattle.std.proofs.Common.{length, None, Option}
use Rattle.std.specs.List.{cons_option}
use Rattle.std.proofs.lemmas.List.{append-nil}
use Rattle.kore_text.specs.Trees.{Declaration}
use Rattle.kore_ast.specs.Plain.{plain_declaration, plain_axiom_decl}
use Rattle.kore_ast.specs.declared.tree.Decl.{Decl}
use Rattle.kore_sig.specs.declared.counted.Placed.{Placed}
use Rattle.kore_sig.specs.Knowing.{ac_in}
use Rattle.kore_sig.specs.SymbolKinds.{said_ac}
use Rattle.kore_sig.proofs.KnowingLaws.{ac_push}
use Rattle.kore_sig.proofs.ListLaws.{map_step}
use Rattle.kore_sig.proofs.SetLaws.{knows_same}
use Rattle.kore_sig.proofs.declared_facts.ac_in.Goals as goal
use Rattle.kore_sig.proofs.declared_facts.ac_in.Goals.{in-Axiom+in-Some+in_ok-add_name}
use Rattle.kore_sig.proofs.declared_facts.ac_in.Goals.{in_default}
use Rattle.kore_sig.proofs.declared_facts.ac_in.Goals.{in_default-via-in-Import-1}
use Rattle.kore_sig.proofs.declared_facts.ac_in.Goals.{in_default-via-in-Axiom+in-None-1}

pub loop-placed-preserved : goal.loop-placed-preserved
loop-placed-preserved c =
    let lt : c.loop-placed.placed-index < length c.args.decls.now = omega arith in
    let f : Placed → Declaration = λ (p : Placed). plain_declaration p.decl.now in
    let ds = map f (take c.loop-placed.placed-index c.args.decls.now) in
    let next : ac_in (map f (take (c.loop-placed.placed-index + 1) c.args.decls.now)) ≡ ac_in ds ++
    ac_in (f c.placed-item.result ∷ []) =
    ap ac_in (map_step f c.args.decls.now c.loop-placed.placed-index c.placed-item.result lt
    c.placed-item.is) ∙ ac_push ds (f c.placed-item.result) in
    elim c.match-placed.branch [
      | in-Axiom+in-Some+in_ok-add_name w ↦ knows_same w.add_name.new.names c.match-placed.names
          (ac_in ds ++ w.in-Some.name.now ∷ []) _ w.names-is
          (ap (λ (o : Option (List ℕ)). ac_in ds ++ cons_option o []) w.in-Some.ensures
          ∙ ap (λ (d : Decl). ac_in ds ++ ac_in (plain_declaration d ∷ [])) (sym w.in-Axiom.is)
          ∙ sym next)
          (w.in_ok-add_name.ensures.known (ac_in ds) c.loop-placed.invariant)
      | in_default w ↦ elim w.in_default.branch [
        | in_default-via-in-Import-1 v ↦ search rules
        | in_default-via-in-Axiom+in-None-1 v ↦ let none : None ≡ said_ac
            (plain_axiom_decl v.in-Axiom.decl) =
            search rules in
            knows_same c.loop-placed.names c.match-placed.names (ac_in ds) _ w.names-is
            (sym (append-nil (ac_in ds))
            ∙ ap (λ (o : Option (List ℕ)). ac_in ds ++ cons_option o []) none
            ∙ ap (λ (d : Decl). ac_in ds ++ ac_in (plain_declaration d ∷ [])) (sym v.in-Axiom.is)
            ∙ sym next)
            c.loop-placed.invariant
      ]
    ]
