-- A jet named both ways: the packed test finds one exactly if there is one, jet by jet. Assumes nothing.
use Rattle.std.proofs.Common.{◌≡◌, ℕ, ◌<◌, Bool, true, false, ◌↔◌, List, get_or, sym, refl, ◌∙◌}
use lib.Bits.{bit_and}
use Rattle.bits.specs.Bit.{bit, any}
use Rattle.bits.proofs.Yes.{not-both, and_left, and_right, and_both}
use Rattle.bits.proofs.Bits.{bit-and, bit-none}
use Rattle.bits.proofs.Words.{any_at, any_found, meets-found, meets_at}
use Rattle.cycle.specs.Size.{string_count, manifold_count}
use Rattle.cycle.specs.Map.{masks_of, mapped, InMask}
use Rattle.cycle.specs.Records.{Record, minor, major}
use Rattle.cycle.specs.Hall.{no_requests, string_both_ways, both_ways, record_both_ways}
use Rattle.cycle.specs.BothWays.{NamedBothWays}
use Rattle.cycle.specs.declared.map.Masks.{Masks}
use Rattle.cycle.specs.declared.values.Requests.{Requests}
use Rattle.cycle.proofs.Maps.{mapped-jet, mapped-found}

-- in one string
module _ (masks : List ℕ) (q : Requests) where
  pub named-at : (i j : ℕ) → i < manifold_count → InMask masks i j → bit j q.inhibit ≡ true → bit j q.reenable ≡ true
      → string_both_ways masks q ≡ true
  named-at i j l stands inhibit reenable =
      meets_at (bit_and (mapped manifold_count masks) q.inhibit) q.reenable j
      (bit-and j (mapped manifold_count masks) q.inhibit
      ∙ and_both (bit j (mapped manifold_count masks)) (bit j q.inhibit) (mapped-jet masks j manifold_count i l stands) inhibit)
      reenable

  named-found : string_both_ways masks q ≡ true
      → (j : ℕ) × (bit j (mapped manifold_count masks) ≡ true) × (bit j q.inhibit ≡ true) × (bit j q.reenable ≡ true)
  named-found e =
      let x = meets-found (bit_and (mapped manifold_count masks) q.inhibit) q.reenable e in
      let both = sym (bit-and x.0 (mapped manifold_count masks) q.inhibit) ∙ x.1 in (
        x.0,
        and_left (bit x.0 (mapped manifold_count masks)) (bit x.0 q.inhibit) both,
        and_right (bit x.0 (mapped manifold_count masks)) (bit x.0 q.inhibit) both,
        x.2,
      )

-- in a record
pub names-exactly : (masks : List Masks) (r : Record) → (record_both_ways masks r ≡ true) ↔ NamedBothWays manifold_count masks r
unfolding both_ways
names-exactly masks (minor r) = ((λ e. not-both false e refl), (λ x. not-both (bit x.jet 0) x.inhibit (bit-none x.jet)))
names-exactly masks (major r) = (to, from)
  where
    in-string : ℕ → Bool
    in-string s = string_both_ways (masks_of masks s) (get_or r.requests s no_requests)

    to : any string_count in-string ≡ true → NamedBothWays manifold_count masks (major r)
    to e =
        let x = any_found string_count in-string e in
        let y = named-found (masks_of masks x.0) (get_or r.requests x.0 no_requests) x.2 in
        let z = mapped-found (masks_of masks x.0) y.0 manifold_count y.1 in
        record {
          string = x.0;
          manifold = z.0;
          jet = y.0;
          in_hall = x.1;
          in_string = z.1;
          stands = z.2;
          inhibit = y.2;
          reenable = y.3;
        }

    from : NamedBothWays manifold_count masks (major r) → any string_count in-string ≡ true
    from x =
        any_at string_count in-string x.string x.in_hall
        (named-at (masks_of masks x.string) (get_or r.requests x.string no_requests) x.manifold x.jet x.in_string x.stands
        x.inhibit x.reenable)
