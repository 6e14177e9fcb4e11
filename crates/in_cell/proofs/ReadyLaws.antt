-- What a routine may take from a cell that is ready for it: its live places come first, no two are alike, and their serial numbers fit a text's lower half.
-- By the codec's laws for legal bytes.
use mathlib.Core.Path.{◌≡◌}
use mathlib.Core.Bool.{true}
use mathlib.Core.List.{List}
use Prim.Native.Nat.{ℕ}
use Rattle.octets.specs.Runs.{Bytes}
use Rattle.rules.specs.Layout.{current, place_fields}
use Rattle.rules.specs.Table.{place_numbers, place_runs, different}
use Rattle.rules.proofs.AllLaws.{All, all_imply}
use Rattle.rules.proofs.PlaceLaws.{Small}
use Rattle.rules.proofs.PlacesCodec.{legal-places}
use Rattle.rules.proofs.CellCodec.{legal-cell}
use Rattle.rules.proofs.SoundPlaceLaws.{fits-at}
use Rattle.cell_read.specs.Places.{live_places, Formed}
use Rattle.cell_read.proofs.PlacesLaws.{formed-legal, live-fit}
use Rattle.in_cell.specs.Step.{Ready}

module _ (c out : List ℕ) (most : ℕ) (ready : Ready c out most) where
  pub ready_formed : Bytes c → Formed c
  ready_formed bytes = formed-legal c bytes ready.size ready.legal

  pub ready_apart : different (live_places c) ≡ true
  ready_apart = (legal-places current (place_runs current c) (legal-cell current c ready.legal).1).distinct

  pub ready_small : Bytes c → All Small (live_places c)
  unfolding place_numbers
  ready_small bytes = all_imply (λ p fit. fits-at (place_fields current) (place_numbers p) 1 fit) (live-fit c bytes ready.size)
