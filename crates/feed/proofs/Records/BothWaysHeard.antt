-- A record names a jet both ways exactly if its bytes do. Assumes nothing.
use Rattle.std.proofs.Common.{◌≡◌, ℕ, ◌+◌, ◌*◌, ◌<◌, eqb, ◌↔◌, List, get_or, sym, ap, ◌∙◌, arith, eq-eqb, eqb-true}
use Rattle.bits.specs.Bit.{bit}
use Rattle.bits.proofs.Yes.{not-both}
use Rattle.bits.proofs.Bits.{bit-none}
use Rattle.cycle.specs.Size.{string_count, manifold_count}
use Rattle.cycle.specs.Records.{major}
use Rattle.cycle.specs.Hall.{no_requests}
use Rattle.cycle.specs.BothWays.{NamedBothWays}
use Rattle.cycle.specs.declared.map.Masks.{Masks}
use Rattle.cycle.specs.declared.values.Requests.{Requests}
use Rattle.feed.specs.Size.{major_mark, word_length, requests_from, requests_length, drops_from}
use Rattle.feed.specs.Bytes.{four}
use Rattle.feed.specs.Values.{requests_of, major_of, values_of}
use Rattle.feed.specs.Answered.{BothWaysSaid}
use Rattle.feed.proofs.Records.HeardValues.{requests-at}
use Rattle.feed.proofs.Records.Lengths.{by-test}

module _ (masks : List Masks) (r : List ℕ) where
  -- the requests of string s, the places added up as `Answered` writes them
  words : (s : ℕ) → s < string_count
      → get_or (requests_of r) s no_requests
      ≡ record {
        inhibit = four r (requests_from + requests_length * s);
        reenable = four r (requests_from + word_length + requests_length * s);
        drop = get_or r (drops_from + s) 0;
      }
  words s l =
      let place : requests_from + requests_length * s + word_length ≡ requests_from + word_length + requests_length * s = omega arith in
      requests-at r s l
      ∙ λ i. record { inhibit = four r (requests_from + requests_length * s); reenable = four r (place i); drop = get_or r (drops_from + s) 0 }

  to-major : get_or r 1 0 ≡ major_mark → NamedBothWays manifold_count masks (major (major_of r)) → BothWaysSaid masks r
  unfolding major_of
  to-major e x =
      let q = sym (words x.string x.in_hall) in
      record {
        mark = e;
        string = x.string;
        manifold = x.manifold;
        jet = x.jet;
        in_hall = x.in_hall;
        in_string = x.in_string;
        stands = x.stands;
        inhibit = ap (λ (p : Requests). bit x.jet p.inhibit) q ∙ x.inhibit;
        reenable = ap (λ (p : Requests). bit x.jet p.reenable) q ∙ x.reenable;
      }

  from-major : BothWaysSaid masks r → NamedBothWays manifold_count masks (major (major_of r))
  unfolding major_of
  from-major x =
      let q = words x.string x.in_hall in
      record {
        string = x.string;
        manifold = x.manifold;
        jet = x.jet;
        in_hall = x.in_hall;
        in_string = x.in_string;
        stands = x.stands;
        inhibit = ap (λ (p : Requests). bit x.jet p.inhibit) q ∙ x.inhibit;
        reenable = ap (λ (p : Requests). bit x.jet p.reenable) q ∙ x.reenable;
      }

  pub both-ways-heard : NamedBothWays manifold_count masks (values_of r) ↔ BothWaysSaid masks r
  unfolding values_of
  both-ways-heard =
      by-test (eqb (get_or r 1 0) major_mark) (λ t. rw t (to-major (eqb-true (get_or r 1 0) major_mark t), from-major))
      (λ t.
      rw t (
        (λ x. not-both (bit x.jet 0) x.inhibit (bit-none x.jet)),
        (λ x. not-both (eqb (get_or r 1 0) major_mark) (eq-eqb (get_or r 1 0) major_mark x.mark) t),
      ))
