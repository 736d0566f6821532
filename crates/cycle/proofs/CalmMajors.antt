-- Where steps 5 to 8 find nothing, all that they leave is the good copy; and a major record of the next cycle that finds nothing in any
-- step, in a hall in which nothing is under way, is taken, and leaves no more than that, the number and the banks. Assumes nothing.
use Rattle.std.proofs.Common.{◌≡◌, ℕ, zero, suc, ◌+◌, Bool, true, false, not, eqb, List, get_or, sym, refl, ap, ◌∙◌, ap₂, eqb-true}
use lib.Bits.{bit_and, bit_or, bit_xor, and_zero_l, and_zero_r, or_zero_r, xor_zero_r}
use Rattle.bits.specs.Bit.{bit, without, meets, pack, any, every}
use Rattle.bits.proofs.Yes.{and_left, and_right, not-both, not-true, not-no, not_yes}
use Rattle.bits.proofs.Bits.{bit-none}
use Rattle.bits.proofs.Every.{every-at, every-same}
use Rattle.bits.proofs.Words.{any_at, any_none}
use Rattle.cycle.specs.Size.{string_count, manifold_count, module_count}
use Rattle.cycle.specs.Map.{masks_of, mapped}
use Rattle.cycle.specs.Banks.{weighed_all}
use Rattle.cycle.specs.Words.{with_close, with_over, with_fail, with_on, leak_word, bad_jets, bad_of, behind_closed, close_bits}
use Rattle.cycle.specs.Words.{requested, after_requests, rechecked, on_failure, kept, major_steps, major_cycle}
use Rattle.cycle.specs.Hall.{no_temperatures, no_requests, past_string, sample_of, string_of, major_strings, major_taken}
use Rattle.cycle.specs.Hall.{string_both_ways, both_ways, taken, unless_both_ways, verdict_on, stepped_by, stepped}
use Rattle.cycle.specs.Records.{major}
use Rattle.cycle.specs.Calm.{calm, all_calm, all_quiet, follows, finds_none, some_leak, quiet_major, kept_strings, kept_all, onward}
use Rattle.cycle.specs.declared.answer.Answer.TheVariants.{Taken}
use Rattle.cycle.specs.declared.number.Next.{Next}
use Rattle.std.specs.Prelude.{Ok}
use Rattle.cycle.specs.Numbers.{Verdict}
use Rattle.cycle.specs.declared.hall.Hall.{Hall}
use Rattle.cycle.specs.declared.slots.OnSlots.{OnSlots}
use Rattle.cycle.specs.declared.string.StringState.{StringState}
use Rattle.cycle.specs.declared.values.Sample.{Sample}
use Rattle.cycle.specs.declared.values.Temperatures.{Temperatures}
use Rattle.cycle.specs.declared.values.Requests.{Requests}
use Rattle.cycle.specs.declared.values.Major.{Major}
use Rattle.cycle.proofs.Each.{each-same-at, each-alike}
use Rattle.cycle.proofs.MappedLeaks.{bad-by-mapped}
use Rattle.cycle.proofs.CalmHalls.{follows-judged, strings-calm}

-- ---- words without a bit

without-shared : (a b : ℕ) → bit_and a b ≡ 0 → without a b ≡ a
unfolding without
without-shared a b e = ap (bit_xor a) e ∙ xor_zero_r a

without-none : (a : ℕ) → without a 0 ≡ a
without-none a = without-shared a 0 (and_zero_r a)

none-without : (b : ℕ) → without 0 b ≡ 0
none-without b = without-shared 0 b (and_zero_l b)

pack-none : (n : ℕ) (f : ℕ → Bool) → ((i : ℕ) → f i ≡ false) → pack n f ≡ 0
unfolding pack
pack-none zero f e = refl
pack-none (suc n) f e = rw (e n) (pack-none n f e)

-- ---- the steps of one string

requested-none : (drop : ℕ) (s : StringState) → bit_and s.close drop ≡ 0 → requested 0 0 drop s ≡ s
unfolding requested
requested-none drop s e =
    let same : (x : ℕ) → bit_or (without x 0) 0 ≡ x = λ x. or_zero_r (without x 0) ∙ without-none x in
    let still : (x : ℕ) → without (bit_or x 0) 0 ≡ x = λ x. without-none (bit_or x 0) ∙ or_zero_r x in
    λ i. with_close (without-shared s.close drop e i)
    (with_over (record { inhibit = same s.over.inhibit i; reenable = still s.over.reenable i })
    (with_fail (same s.standing.fail i) s))

close-none : (m : ℕ) (masks : List ℕ) (again : ℕ) → close_bits m masks 0 again ≡ 0
unfolding close_bits meets
close-none m masks again =
    pack-none m _
    (λ i.
    ap (λ (x : ℕ). not (eqb (bit_and x again) 0)) (and_zero_r (get_or masks i 0)) ∙ ap (λ (x : ℕ). not (eqb x 0)) (and_zero_l again))

rechecked-none : (m : ℕ) (masks : List ℕ) (bad : ℕ) (s : StringState) → s.on.recheck ≡ 0 → rechecked m masks bad s ≡ s
unfolding rechecked
rechecked-none m masks bad s e =
    let again : ℕ = without bad s.over.reenable in
    let none : close_bits m masks s.on.recheck again ≡ 0 =
    ap (λ (x : ℕ). close_bits m masks x again) e ∙ close-none m masks again in
    λ i. with_close ((ap (bit_or s.close) none ∙ or_zero_r s.close) i) s

on_none : (s : StringState) → s.on.newest ≡ 0 → s.on.older ≡ 0 → s.on.recheck ≡ 0 → on_failure 0 s ≡ s
unfolding on_failure
on_none s newest older recheck =
    let none : without (bit_and 0 s.on.newest) s.over.reenable ≡ 0 =
    ap (λ (x : ℕ). without x s.over.reenable) (and_zero_l s.on.newest) ∙ none-without s.over.reenable in
    λ i. with_on (record { newest = sym newest i; older = (newest ∙ sym older) i; recheck = (none ∙ sym recheck) i })
    (with_fail ((ap (bit_or s.standing.fail) none ∙ or_zero_r s.standing.fail) i) s)

bad-none : (jets commanded driver leaking : ℕ) → without (bit_and jets driver) commanded ≡ 0 → bit_and jets leaking ≡ 0
    → bad_jets jets commanded driver leaking ≡ 0
unfolding bad_jets
bad-none jets commanded driver leaking e l =
    sym (bad-by-mapped jets commanded driver leaking)
    ∙ ap (λ (x : ℕ). without (bit_and jets (bit_or driver x)) commanded) l
    ∙ ap (λ (x : ℕ). without (bit_and jets x) commanded) (or_zero_r driver)
    ∙ e

cycle-keeps : (m : ℕ) (masks : List ℕ) (x : Sample) (t : Temperatures) (q : Requests) (s : StringState)
    → finds_none (mapped m masks) x q s.on s.close ≡ true → some_leak (mapped m masks) t ≡ false
    → major_cycle m masks false x t q s ≡ kept s
unfolding finds_none major_cycle major_steps
cycle-keeps m masks x t q s f l =
    let jets : ℕ = mapped m masks in
    let f₁ = and_right (eqb s.on.newest 0) _ f in
    let f₂ = and_right (eqb s.on.older 0) _ f₁ in
    let f₃ = and_right (eqb s.on.recheck 0) _ f₂ in
    let f₄ = and_right (eqb (bit_and jets q.inhibit) 0) _ f₃ in
    let f₅ = and_right (eqb (bit_and jets q.reenable) 0) _ f₄ in
    let newest : s.on.newest ≡ 0 = eqb-true s.on.newest 0 (and_left (eqb s.on.newest 0) _ f) in
    let older : s.on.older ≡ 0 = eqb-true s.on.older 0 (and_left (eqb s.on.older 0) _ f₁) in
    let recheck : s.on.recheck ≡ 0 = eqb-true s.on.recheck 0 (and_left (eqb s.on.recheck 0) _ f₂) in
    let inhibit : bit_and jets q.inhibit ≡ 0 = eqb-true _ 0 (and_left (eqb (bit_and jets q.inhibit) 0) _ f₃) in
    let reenable : bit_and jets q.reenable ≡ 0 = eqb-true _ 0 (and_left (eqb (bit_and jets q.reenable) 0) _ f₄) in
    let dropped : bit_and s.close q.drop ≡ 0 = eqb-true _ 0 (and_left (eqb (bit_and s.close q.drop) 0) _ f₅) in
    let driven : without (bit_and jets x.driver) x.commanded ≡ 0 =
    eqb-true _ 0 (and_right (eqb (bit_and s.close q.drop) 0) _ f₅) in
    let leaking : bit_and jets (leak_word t) ≡ 0 = eqb-true _ 0 (not-no (eqb (bit_and jets (leak_word t)) 0) l) in
    let bad : bad_of m masks x (leak_word t) ≡ 0 = bad-none jets x.commanded x.driver (leak_word t) driven leaking in
    let closed : ℕ = behind_closed m masks s.standing.valves in
    let heeded : without (bit_and jets q.reenable) closed ≡ 0 = ap (λ (w : ℕ). without w closed) reenable ∙ none-without closed in
    let asked : after_requests m masks q s ≡ s =
    ap₂ (λ (a b : ℕ). requested a b q.drop s) inhibit heeded ∙ requested-none q.drop s dropped in
    ap₂ (λ (b : ℕ) (y : StringState). kept (on_failure b (rechecked m masks b y))) bad asked
    ∙ ap (λ (y : StringState). kept (on_failure 0 y)) (rechecked-none m masks 0 s recheck)
    ∙ ap kept (on_none s newest older recheck)

-- ---- all strings

pub major-keeps : (r : Major) (h : Hall) → quiet_major r h ≡ true → major_taken r h ≡ kept_all r.quantities h
unfolding quiet_major kept_strings kept_all major_strings
major-keeps r h e =
    let rest = and_right (eqb r.minor.path 0) _ e in
    let path : r.minor.path ≡ 0 = eqb-true r.minor.path 0 (and_left (eqb r.minor.path 0) _ e) in
    let none = and_left (every string_count _) _ rest in
    let warm = not-true (any string_count _) (and_right (every string_count _) _ rest) in
    ap (λ (l : List StringState). record
    { n = h.n; masks = h.masks; strings = l; banks = weighed_all module_count r.quantities h.banks })
    (each-same-at _ (λ s x. kept x) past_string h.strings string_count
    (λ i b.
    let masks : List ℕ = masks_of h.masks i in
    let t : Temperatures = get_or r.temperatures i no_temperatures in
    let q : Requests = get_or r.requests i no_requests in
    ap (λ (p : Bool). major_cycle manifold_count masks p (sample_of r.minor i) t q (string_of h i)) (ap (bit i) path ∙ bit-none i)
    ∙ cycle-keeps manifold_count masks (sample_of r.minor i) t q (string_of h i) (every-at string_count _ none i b)
    (not_yes (some_leak (mapped manifold_count masks) t) (λ l. not-both _ (any_at string_count _ i b l) warm))))

-- ---- a record of the next cycle

-- it names no jet, so it names none both ways
none_named : (r : Major) (h : Hall) → quiet_major r h ≡ true → both_ways string_count h.masks r.requests ≡ false
unfolding quiet_major finds_none both_ways string_both_ways meets
none_named r h e =
    let none = and_left (every string_count _) _ (and_right (eqb r.minor.path 0) _ e) in
    any_none string_count _
    (λ i b.
    let q : Requests = get_or r.requests i no_requests in
    let jets : ℕ = mapped manifold_count (masks_of h.masks i) in
    let on : OnSlots ℕ = (string_of h i).on in
    let f = every-at string_count _ none i b in
    let f₃ = and_right (eqb on.recheck 0) _ (and_right (eqb on.older 0) _ (and_right (eqb on.newest 0) _ f)) in
    let inhibit : bit_and jets q.inhibit ≡ 0 = eqb-true _ 0 (and_left (eqb (bit_and jets q.inhibit) 0) _ f₃) in
    ap (λ (x : ℕ). not (eqb (bit_and x q.reenable) 0)) inhibit ∙ ap (λ (x : ℕ). not (eqb x 0)) (and_zero_l q.reenable))

pub major-passes : (r : Major) (h : Hall) → all_calm string_count h.strings ≡ true → all_quiet r.minor h ≡ true
    → follows h.n r.minor.wire true ≡ true → quiet_major r h ≡ true
    → stepped (major r) h ≡ record { answer = Taken; hall = kept_all r.quantities (onward h) }
unfolding stepped verdict_on unless_both_ways taken quiet_major
major-passes r h c q f e =
    let next : Next = record { n = h.n + 1; gap = false; missed = false } in
    let v : verdict_on h.n h.masks (major r) ≡ Ok next =
    ap₂ unless_both_ways (none_named r h e) (follows-judged h.n r.minor.wire true f) in
    ap (λ (y : Verdict). stepped_by y (major r) h) v
    ∙ ap (λ (l : List StringState). record {
      answer = Taken;
      hall = major_taken r (record { n = h.n + 1; masks = h.masks; strings = l; banks = h.banks });
    }) (strings-calm r.minor h c q)
    ∙ ap (λ (x : Hall). record { answer = Taken; hall = x }) (major-keeps r (onward h) e)

-- what is seen of a string but for its good copy
pub kept-alike : {A : Type 0} (g : StringState → A) → ((x : StringState) → g (kept x) ≡ g x) → (strings : List StringState) (i : ℕ)
    → g (get_or (kept_strings strings) i past_string) ≡ g (get_or strings i past_string)
unfolding kept_strings
kept-alike g same strings i = each-alike g (λ s x. kept x) past_string strings (λ k x. same x) string_count i

-- good copies are no part of what is under way
pub kept-calm : (strings : List StringState) → all_calm string_count (kept_strings strings) ≡ all_calm string_count strings
unfolding all_calm calm kept
kept-calm strings = every-same string_count _ _ (λ i b. kept-alike calm (λ x. refl) strings i)

-- nor of what is shown
pub kept-fail : (strings : List StringState) (i : ℕ)
    → (get_or (kept_strings strings) i past_string).standing.fail ≡ (get_or strings i past_string).standing.fail
unfolding kept
kept-fail strings i = kept-alike (λ x. x.standing.fail) (λ x. refl) strings i

pub kept-close : (strings : List StringState) (i : ℕ)
    → (get_or (kept_strings strings) i past_string).close ≡ (get_or strings i past_string).close
unfolding kept
kept-close strings i = kept-alike (λ x. x.close) (λ x. refl) strings i
