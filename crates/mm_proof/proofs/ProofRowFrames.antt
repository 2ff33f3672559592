-- The frames of the proof rows of the header, as schemes over patterns.
use Rattle.std.proofs.Common.{refl, [], ◌∷◌}
use Rattle.std.specs.Prelude.{codes}
use Rattle.mm_header.specs.Header.{header_rows}
use Rattle.mm_header.specs.HeaderContext.{header_context, header_labels}
use Rattle.ml_pat.specs.Patterns.{bot, top, imp, not, and, or, equal, member, fun, ex, all, app}
use Rattle.ml_pat.specs.Patterns.{next, ev, var}
use Rattle.mm_proof.specs.Judgements.{holds, is_fresh, is_substituted, is_predicate}
use Rattle.mm_proof.proofs.Rows.{IsRow, no_pair, pair_of, P, Q, R, T, U, fp, fq, fr, ft, fu, fx, fy}
use Rattle.mm_proof.proofs.Rows.{fs, fv}

pub row_p_1 : IsRow (codes "p.1") no_pair (fp ∷ fq ∷ []) ([]) (holds (imp P (imp Q P)))
unfolding header_context header_rows header_labels
row_p_1 = refl

pub row_p_2 : IsRow (codes "p.2") no_pair (fp ∷ fq ∷ fr ∷ []) ([])
    (holds (imp (imp P (imp Q R)) (imp (imp P Q) (imp P R))))
unfolding header_context header_rows header_labels
row_p_2 = refl

pub row_p_3 : IsRow (codes "p.3") no_pair (fp ∷ []) ([]) (holds (imp (imp (imp P bot) bot) P))
unfolding header_context header_rows header_labels
row_p_3 = refl

pub row_mp : IsRow (codes "mp") no_pair (fp ∷ fq ∷ []) (holds P ∷ holds (imp P Q) ∷ []) (holds (Q))
unfolding header_context header_rows header_labels
row_mp = refl

pub row_not_1 : IsRow (codes "not.1") no_pair (fp ∷ []) ([]) (holds (imp (not P) (imp P bot)))
unfolding header_context header_rows header_labels
row_not_1 = refl

pub row_not_2 : IsRow (codes "not.2") no_pair (fp ∷ []) ([]) (holds (imp (imp P bot) (not P)))
unfolding header_context header_rows header_labels
row_not_2 = refl

pub row_and_1 : IsRow (codes "and.1") no_pair (fp ∷ fq ∷ []) ([]) (holds (imp (and P Q) P))
unfolding header_context header_rows header_labels
row_and_1 = refl

pub row_and_2 : IsRow (codes "and.2") no_pair (fp ∷ fq ∷ []) ([]) (holds (imp (and P Q) Q))
unfolding header_context header_rows header_labels
row_and_2 = refl

pub row_and_3 : IsRow (codes "and.3") no_pair (fp ∷ fq ∷ []) ([]) (holds (imp P (imp Q (and P Q))))
unfolding header_context header_rows header_labels
row_and_3 = refl

pub row_or_1 : IsRow (codes "or.1") no_pair (fp ∷ fq ∷ []) ([]) (holds (imp P (or P Q)))
unfolding header_context header_rows header_labels
row_or_1 = refl

pub row_or_2 : IsRow (codes "or.2") no_pair (fp ∷ fq ∷ []) ([]) (holds (imp Q (or P Q)))
unfolding header_context header_rows header_labels
row_or_2 = refl

pub row_or_3 : IsRow (codes "or.3") no_pair (fp ∷ fq ∷ fr ∷ []) ([])
    (holds (imp (imp P R) (imp (imp Q R) (imp (or P Q) R))))
unfolding header_context header_rows header_labels
row_or_3 = refl

pub row_top : IsRow (codes "top") no_pair ([]) ([]) (holds (top))
unfolding header_context header_rows header_labels
row_top = refl

pub row_inst : IsRow (codes "inst") no_pair (fp ∷ fq ∷ fr ∷ fx ∷ fs ∷ [])
    (is_substituted R P Q 0 ∷ []) (holds (imp (all 0 0 P) (imp (fun Q 0) R)))
unfolding header_context header_rows header_labels
row_inst = refl

pub row_fun_ex : IsRow (codes "fun.ex") (pair_of (codes "y") (codes "p") (codes "fun.ex") []
    (codes "( \\imp ( \\ex y s ( \\eq y p ) ) ( \\fun p s ) )")) (fp ∷ fy ∷ fs ∷ []) ([])
    (holds (imp (ex 1 0 (equal (var 1) P)) (fun P 0)))
unfolding header_context header_rows header_labels
row_fun_ex = refl

pub row_ex_el : IsRow (codes "ex.el") no_pair (fp ∷ fq ∷ fx ∷ fs ∷ [])
    (holds (imp (fun (var 0) 0) (imp P Q)) ∷ is_fresh 0 Q ∷ []) (holds (imp (ex 0 0 P) Q))
unfolding header_context header_rows header_labels
row_ex_el = refl

pub row_eq_refl : IsRow (codes "eq.refl") no_pair (fp ∷ []) ([]) (holds (equal P P))
unfolding header_context header_rows header_labels
row_eq_refl = refl

pub row_eq_el : IsRow (codes "eq.el") no_pair (fp ∷ fq ∷ fr ∷ ft ∷ fu ∷ fx ∷ [])
    (is_substituted T R P 0 ∷ is_substituted U R Q 0 ∷ []) (holds (imp (equal P Q) (imp T U)))
unfolding header_context header_rows header_labels
row_eq_el = refl

pub row_eq_in : IsRow (codes "eq.in") no_pair (fp ∷ fq ∷ [])
    (holds (imp P Q) ∷ holds (imp Q P) ∷ []) (holds (equal P Q))
unfolding header_context header_rows header_labels
row_eq_in = refl

pub row_mem_in : IsRow (codes "mem.in") no_pair (fp ∷ fs ∷ []) ([])
    (holds (imp (fun P 0) (member P P)))
unfolding header_context header_rows header_labels
row_mem_in = refl

pub row_mem_no : IsRow (codes "mem.no") no_pair (fp ∷ fq ∷ fr ∷ [])
    (is_predicate R ∷ holds (imp R (not (and P Q))) ∷ []) (holds (imp R (not (member P Q))))
unfolding header_context header_rows header_labels
row_mem_no = refl

pub row_apart : IsRow (codes "apart") no_pair (fp ∷ fq ∷ fs ∷ fv ∷ []) ([])
    (holds (imp (fun P 0) (imp (fun Q 1) (imp (not (equal P Q)) (not (and P Q))))))
unfolding header_context header_rows header_labels
row_apart = refl

pub row_app_l : IsRow (codes "app.l") no_pair (fp ∷ fq ∷ fr ∷ ft ∷ [])
    (is_predicate R ∷ holds (imp R (imp P Q)) ∷ []) (holds (imp R (imp (app P T) (app Q T))))
unfolding header_context header_rows header_labels
row_app_l = refl

pub row_app_r : IsRow (codes "app.r") no_pair (fp ∷ fq ∷ fr ∷ ft ∷ [])
    (is_predicate R ∷ holds (imp R (imp P Q)) ∷ []) (holds (imp R (imp (app T P) (app T Q))))
unfolding header_context header_rows header_labels
row_app_r = refl

pub row_bot_l : IsRow (codes "bot.l") no_pair (fp ∷ []) ([]) (holds (imp (app bot P) bot))
unfolding header_context header_rows header_labels
row_bot_l = refl

pub row_bot_r : IsRow (codes "bot.r") no_pair (fp ∷ []) ([]) (holds (imp (app P bot) bot))
unfolding header_context header_rows header_labels
row_bot_r = refl

pub row_next_in : IsRow (codes "next.in") no_pair (fp ∷ fq ∷ []) (holds (imp P Q) ∷ [])
    (holds (imp (next P) (next Q)))
unfolding header_context header_rows header_labels
row_next_in = refl

pub row_ev_1 : IsRow (codes "ev.1") no_pair (fp ∷ []) ([]) (holds (imp P (ev P)))
unfolding header_context header_rows header_labels
row_ev_1 = refl

pub row_ev_2 : IsRow (codes "ev.2") no_pair (fp ∷ []) ([]) (holds (imp (next (ev P)) (ev P)))
unfolding header_context header_rows header_labels
row_ev_2 = refl

pub row_ev_kt : IsRow (codes "ev.kt") no_pair (fp ∷ fq ∷ [])
    (holds (imp P Q) ∷ holds (imp (next Q) Q) ∷ []) (holds (imp (ev P) Q))
unfolding header_context header_rows header_labels
row_ev_kt = refl
