-- Demand 3 holds of any code that keeps apply's promise.
-- The promise admits one outcome, so a chain of calls is the run, and what holds of runs holds of chains.
use mathlib.Core.Path.{◌≡◌, refl, ap}
use mathlib.Core.List.{List, ◌∷◌}
use Prim.Native.Nat.{ℕ}
use Rattle.demands.specs.Demand3.{Call, Result, result_of, run, run_in, Chain, ended, called, Demand3OfChains}
use Rattle.demands.proofs.Demand3Holds.{demand_3}

pub chain_is-run : {t u : List ℕ} {cs : List Call} {rs : List Result} → Chain t cs u rs → (u, rs) ≡ run t cs
unfolding run_in
chain_is-run ended = refl
chain_is-run (called {o} e chain) = rw (← e) (ap {B = List ℕ × List Result} (λ w. (w.0, result_of o ∷ w.1)) (chain_is-run chain))

pub demand_3_of_chains : Demand3OfChains
demand_3_of_chains t b a xs ys p kept u v rs ss c d = rw (chain_is-run c, chain_is-run d) (demand_3 t b a xs ys p kept)
