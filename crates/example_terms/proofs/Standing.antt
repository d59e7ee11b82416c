-- Tickets at places, and an instruction more.
use Rattle.std.proofs.Common.{◌≡◌, ℕ, ◌<◌, List, [], ◌∷◌, ◌++◌, length, refl, sym, subst}
use Rattle.std.specs.Prelude.{map, slice_index}
use Rattle.term_table.specs.Passes.{PassState}
use Rattle.term_table.specs.Trees.{Extends}
use Rattle.term_table.specs.Meanings.{Means, AllMean}
use Rattle.term_table.proofs.Meanings.{still_all_mean, all_mean_as, none_mean, first_means, last_means, means_at}
use Rattle.example_terms.specs.declared.block.Instruction.{Instruction}
use Rattle.example_terms.specs.Meaning.{Environment, Value, nothing, at, made, values_behind, values_in, op_algebra}
use Rattle.example_terms.specs.Standing.{AreAt, StandFor}

pub there_means : {p : PassState} {ts : List ℕ} {fs : Environment → List Value} {t k : ℕ} → AllMean op_algebra p ts fs
    → (t ≡ slice_index ts k) × (k < length ts) → Means op_algebra p t (λ e. at (fs e) k)
there_means {p} {ts} {fs} {t} {k} h there = subst (λ u. Means op_algebra p u (λ e. at (fs e) k)) (sym there.0)
    (means_at nothing k h there.1)

-- the values at some places
pub picked : {p : PassState} {all : List ℕ} {fs : Environment → List Value} (ks ts : List ℕ) → AllMean op_algebra p all fs → AreAt all ks ts
    → AllMean op_algebra p ts (λ e. map (at (fs e)) ks)
picked {p} {all} {fs} [] [] h there = none_mean
picked {p} {all} {fs} [] (t ∷ ts) h there = absurd there
picked {p} {all} {fs} (k ∷ ks) [] h there = absurd there
picked {p} {all} {fs} (k ∷ ks) (t ∷ ts) h there = first_means (there_means h (there.0, there.1)) (picked ks ts h there.2)

-- one place more
pub one_more : (all ks ts : List ℕ) (k t : ℕ) → AreAt all ks ts → t ≡ slice_index all k → k < length all
    → AreAt all (ks ++ k ∷ []) (ts ++ t ∷ [])
one_more all [] [] k t h same lt = (same, lt, tt)
one_more all [] (u ∷ us) k t h same lt = absurd h
one_more all (j ∷ js) [] k t h same lt = absurd h
one_more all (j ∷ js) (u ∷ us) k t h same lt = (h.0, h.1, one_more all js us k t h.2 same lt)

values_more : (vs : List Value) (is : List Instruction) (i : Instruction) (e : Environment)
    → values_behind vs (is ++ i ∷ []) e ≡ values_behind vs is e ++ made i.op e (map (at (values_behind vs is e)) i.operands.items) ∷ []
values_more vs [] i e = refl
values_more vs (j ∷ is) i e = values_more (vs ++ made j.op e (map (at vs) j.operands.items) ∷ []) is i e

-- one instruction more
pub stand_more : {p q : PassState} {ts : List ℕ} {t : ℕ} (is : List Instruction) (i : Instruction) → Extends p q → StandFor p ts is
    → Means op_algebra q t (λ e. made i.op e (map (at (values_in is e)) i.operands.items)) → StandFor q (ts ++ t ∷ []) (is ++ i ∷ [])
stand_more {p} {q} {ts} {t} is i later h v = all_mean_as (λ e. sym (values_more [] is i e)) (last_means (still_all_mean later h) v)
