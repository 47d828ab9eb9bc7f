-- How the loop over a program's steps goes on and ends.
use Rattle.std.proofs.Common.{◌≡◌, ◌<◌, ◌≤◌, ◌+◌, ◌-◌, ℕ, zero, suc, Bool, List, [], ◌∷◌, length, take, drop, get_or, refl, sym, ap, ◌∙◌, subst, arith, add-one, length-drop}
use Rattle.std.proofs.Math.ListN.{set}
use Rattle.std.proofs.Math.Seq.{take-length}
use Rattle.pattern_tree.specs.declared.program.Op.{Op}
use Rattle.pattern_tree.specs.declared.machine.Wire.{Wire}
use Rattle.pattern_tree.specs.declared.machine.Kept.{Kept}
use Rattle.pattern_tree.specs.declared.machine.Turn.{Turn}
use Rattle.pattern_tree.specs.Machine.{run, behind, step, hit_of}

front : (hits : List Bool) (ops : List Op) (marks : List Bool) (at : ℕ) (w : Wire) (kept : List Kept) (op : Op) (t : Turn) (kept' : List Kept)
    → at < length ops → length ops ≡ length marks → op ≡ get_or ops at op → step op (hit_of hits op) (drop at marks) w kept ≡ (let p : Turn × List Kept = (t, kept') in p)
    → behind (take at marks) (run hits (drop at ops) (drop at marks) w kept) ≡ behind (take (suc at) (set marks at t.mark)) (run hits (drop (suc at) ops) (drop (suc at) (set marks at t.mark)) t.wire kept')
unfolding run
front hits [] marks at w kept op t kept' h l e f = absurd (omega arith)
front hits (o ∷ ops) [] at w kept op t kept' h l e f = absurd (omega arith)
front hits (o ∷ ops) (m ∷ marks) zero w kept op t kept' h l e f =
    let g = subst (λ x. step x (hit_of hits x) (m ∷ marks) w kept ≡ (let p : Turn × List Kept = (t, kept') in p)) e f in
    ap (λ (s : Turn × List Kept). behind (s.0.mark ∷ []) (run hits ops marks s.0.wire s.1)) g
front hits (o ∷ ops) (m ∷ marks) (suc at) w kept op t kept' h l e f =
    ap (λ r. behind (m ∷ []) r) (front hits ops marks at w kept op t kept' (omega arith) (omega arith) e f)

-- one more step is done
pub run_front : (hits : List Bool) (ops : List Op) (marks : List Bool) (at : ℕ) (w : Wire) (kept : List Kept) (op : Op) (t : Turn) (kept' : List Kept)
    → at < length ops → length ops ≡ length marks → op ≡ get_or ops at op → step op (hit_of hits op) (drop at marks) w kept ≡ (let p : Turn × List Kept = (t, kept') in p)
    → behind (take at marks) (run hits (drop at ops) (drop at marks) w kept) ≡ behind (take (at + 1) (set marks at t.mark)) (run hits (drop (at + 1) ops) (drop (at + 1) (set marks at t.mark)) t.wire kept')
run_front hits ops marks at w kept op t kept' h l e f =
    front hits ops marks at w kept op t kept' h l e f
    ∙ ap (λ k. behind (take k (set marks at t.mark)) (run hits (drop k ops) (drop k (set marks at t.mark)) t.wire kept')) (sym (add-one at))

-- no step is left
pub run_end : (hits : List Bool) (ops : List Op) (marks : List Bool) (at : ℕ) (w : Wire) (kept : List Kept) → length ops ≤ at → length ops ≡ length marks
    → behind (take at marks) (run hits (drop at ops) (drop at marks) w kept) ≡ (let p : List Bool × Wire = (marks, w) in p)
unfolding run
run_end hits [] [] zero w kept h l = refl
run_end hits [] [] (suc at) w kept h l = refl
run_end hits [] (m ∷ marks) at w kept h l = absurd (omega arith)
run_end hits (o ∷ ops) [] at w kept h l = absurd (omega arith)
run_end hits (o ∷ ops) (m ∷ marks) zero w kept h l = absurd (omega arith)
run_end hits (o ∷ ops) (m ∷ marks) (suc at) w kept h l =
    ap (λ r. behind (m ∷ []) r) (run_end hits ops marks at w kept (omega arith) (omega arith))

-- within a list the default doesn't matter
same_default_at : (ops : List Op) (at : ℕ) (d d' : Op) → at < length ops → get_or ops at d ≡ get_or ops at d'
same_default_at [] at d d' h = absurd (omega arith)
same_default_at (o ∷ ops) zero d d' h = refl
same_default_at (o ∷ ops) (suc at) d d' h = same_default_at ops at d d' (omega arith)

same_default : (ops : List Op) (at : ℕ) (d : Op) → at < length ops → get_or ops at d ≡ get_or ops at (get_or ops at d)
same_default ops at d h = same_default_at ops at d (get_or ops at d) h

whole_rest : (xs : List Bool) (at : ℕ) → take (length xs - at) (drop at xs) ≡ drop at xs
whole_rest xs at = ap (λ k. take k (drop at xs)) (sym (length-drop at xs)) ∙ take-length (drop at xs)

-- one turn of the loop, as the code has it
pub run_turn : (hits : List Bool) (ops : List Op) (marks : List Bool) (at : ℕ) (w : Wire) (kept : List Kept) (d : Op) (hit : Bool) (t : Turn) (kept' : List Kept)
    → at < length ops → length ops ≡ length marks → hit ≡ hit_of hits (get_or ops at d)
    → step (get_or ops at d) hit (take (length marks - at) (drop at marks)) w kept ≡ (let p : Turn × List Kept = (t, kept') in p)
    → behind (take at marks) (run hits (drop at ops) (drop at marks) w kept) ≡ behind (take (at + 1) (set marks at t.mark)) (run hits (drop (at + 1) ops) (drop (at + 1) (set marks at t.mark)) t.wire kept')
run_turn hits ops marks at w kept d hit t kept' h l e f =
    let op = get_or ops at d in
    run_front hits ops marks at w kept op t kept' h l (same_default ops at d h)
    (ap (λ b. step op b (drop at marks) w kept) (sym e) ∙ ap (λ ms. step op hit ms w kept) (sym (whole_rest marks at)) ∙ f)
