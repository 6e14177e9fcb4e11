-- The requests that give the rows of an answer: a Write-Replace on cells without a live place, or a Cancel on cells that have its text live with the row's count.
-- Without rows the Write-Replace asks for no broadcast, which the zero rules stop. Each request is allowed, and computes to what it tells.
use Rattle.std.specs.Prelude.{Ok}
use mathlib.Core.Path.{◌≡◌, refl}
use mathlib.Core.Bool.{true}
use mathlib.Core.List.{[], ◌∷◌, flat_map}
use Prim.Native.Nat.{ℕ, ◌^◌, ◌<◌}
use native.Mathlib.Omega.{arith}
use borrow.Author.Tests.{lt-ltb, eq-eqb}
use Rattle.rules.specs.Lists.{every, any, zeros, one_of}
use Rattle.rules.specs.Layout.{current, longest_period, last_sib}
use Rattle.rules.specs.Table.{is_text, running}
use Rattle.rules.specs.Record.{write_replace, cancel_or_kill, no_area, request_numbers, allowed, kind_allows, area_fits, within_limits, cancels_nothing}
use Rattle.rules.specs.InCell.{reported, starts_nothing, start, cancel, in_cell}
use Rattle.rules.specs.Refusals.{request_verdict}
use Rattle.rules.specs.Sound.{fits, fit_request, sound_places}
use Rattle.rules.specs.declared.Request.{Request}
use Rattle.rules.specs.declared.Place.{Place}
use Rattle.rules.proofs.SoundPlaceLaws.{facts_sound, one-sound}

module _ (identifier serial : ℕ) where
  -- without an area, a content and a period
  abbrev asking : (kind flags requested sib : ℕ) → Request
  asking kind flags requested sib =
      record {
        kind = kind;
        flags = flags;
        area = no_area;
        identifier = identifier;
        serial = serial;
        content = 0;
        period = record { 0 = 0 };
        requested = record { 0 = requested };
        sib = sib;
      }

  abbrev pub starting : (requested : ℕ) → Request
  starting requested = asking write_replace 0 requested last_sib

  -- flag 4: of one text
  abbrev pub cancelling : Request
  cancelling = asking cancel_or_kill 4 0 0

  -- sent so often, and going on
  abbrev pub live : ℕ → Place
  live sent =
      record {
        identifier = identifier;
        serial = serial;
        content = 0;
        period = record { 0 = 1 };
        requested = record { 0 = 0 };
        sent = record { 0 = sent };
        wait = record { 0 = 0 };
        sib = last_sib;
      }

  -- ---- allowed

  pub start-allowed : (requested : ℕ) → request_verdict (longest_period current) (starting requested) [] ≡ Ok tt
  unfolding request_verdict kind_allows allowed one_of any zeros every area_fits within_limits cancels_nothing
  start-allowed requested = refl

  pub cancel-allowed : request_verdict (longest_period current) cancelling [] ≡ Ok tt
  unfolding request_verdict kind_allows allowed one_of any zeros every area_fits within_limits cancels_nothing
  cancel-allowed = refl

  -- ---- told

  pub start-told : (in_cell (starting 1) []).rows ≡ reported 0
  unfolding in_cell start starts_nothing running any
  start-told = refl

  pub start-stopped : (in_cell (starting 0) []).rows ≡ []
  unfolding in_cell start starts_nothing
  start-stopped = refl

  pub cancel-told : (sent : ℕ) → (in_cell cancelling (live sent ∷ [])).rows ≡ reported sent
  unfolding in_cell cancel is_text flat_map
  cancel-told sent = rw (eq-eqb identifier identifier refl, eq-eqb serial serial refl)

  pub cancel-idle : (in_cell cancelling []).rows ≡ []
  unfolding in_cell cancel flat_map
  cancel-idle = refl

  -- ---- numbers that fit

  module _ (small-identifier : identifier < 256 ^ 2) (small-serial : serial < 256 ^ 2) where
    asking_fits : (kind flags requested sib : ℕ) → kind < 256 → flags < 256 → requested < 256 ^ 2 → sib < 256 → fit_request (asking kind flags requested sib) ≡ true
    unfolding fit_request request_numbers fits
    asking_fits kind flags requested sib k f n s =
        rw (
          lt-ltb kind 256 k,
          lt-ltb flags 256 f,
          lt-ltb identifier (256 ^ 2) small-identifier,
          lt-ltb serial (256 ^ 2) small-serial,
          lt-ltb requested (256 ^ 2) n,
          lt-ltb sib 256 s,
        )

    pub start_fits : (requested : ℕ) → requested < 256 ^ 2 → fit_request (starting requested) ≡ true
    start_fits requested n = asking_fits write_replace 0 requested last_sib (omega arith) (omega arith) n (omega arith)

    pub cancel-fits : fit_request cancelling ≡ true
    cancel-fits = asking_fits cancel_or_kill 4 0 0 (omega arith) (omega arith) (omega arith) (omega arith)

    pub live-sound : (sent : ℕ) → sent < 256 ^ 2 → sound_places current (live sent ∷ []) ≡ true
    live-sound sent n =
        one-sound current (live sent)
        (facts_sound current (live sent)
        (record {
          identifier = small-identifier;
          serial = small-serial;
          content = omega arith;
          requested = omega arith;
          sent = n;
          legal =
              record {
                period = omega arith;
                once = λ z. omega (arith, z);
                wait = omega arith;
                sent = λ z. absurd (z refl);
                sib = (omega arith, omega arith);
              };
        }))
