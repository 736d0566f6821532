-- What goes had to go, and what stays waits, by the bytes alone. Assumes nothing.
use Rattle.std.proofs.Common.{◌≡◌, ℕ, zero, suc, ◌-◌, ◌<◌, ◌≤◌, eqb, ltb, List, [], ◌∷◌, length, get_or, take, drop, sym, refl, ap, ◌∙◌, inl, inr, arith, take-append-drop, ltb-false, ltb-true, eqb-true, Option, None, Some}
use borrow.Author.Tests.{eqb-false}
use Rattle.feed.specs.Size.{mark_byte, minor_length, major_length}
use Rattle.feed.specs.Format.{row_of, mark_of, length_of, good_kind, full_look, marked_look, look}
use Rattle.feed.specs.Reader.{kept_by, settle}
use Rattle.feed.specs.Good.{WholeRecord}
use Rattle.feed.specs.Answered.{Unfit, no_mark, no_kind, bad_minor, bad_major, Waiting, empty, begun, minor, major}
use Rattle.feed.specs.declared.format.Kind.{Kind}
use Rattle.feed.specs.declared.format.Kind.TheVariants.{Minor, Major}
use Rattle.feed.specs.declared.format.Look.{Look}
use Rattle.feed.specs.declared.format.Look.TheVariants.{Drops, Waits, Loses, Settles}
use Rattle.feed.proofs.Records.Lengths.{cond-by}
use Rattle.feed.proofs.Reading.Settling.{Goes, settled-append}
use Rattle.feed.proofs.Reading.Fronts.{settle-short}
use Rattle.feed.proofs.Records.Goods.{mark-of, of-mark, whole-settles}

-- ---- every byte that settling drops goes by its own look

AllGo : List ℕ → ℕ → Type 0
AllGo l n = (i : ℕ) → i < n → Goes (look (drop i l))

goes-next : (a : ℕ) (l : List ℕ) → Goes (look (a ∷ l)) → AllGo l (length l - length (settle l))
    → AllGo (a ∷ l) (length (a ∷ l) - length (settle l))
unfolding AllGo
goes-next a l g f zero h = g
goes-next a l g f (suc i) h = f i (omega (arith, settle-short l))

all_go : (l : List ℕ) → AllGo l (length l - length (settle l))
unfolding AllGo settle
all_go [] i h = absurd (omega arith)
all_go (a ∷ l) i h = by (all_go l) (look (a ∷ l)) refl i h
  where
    by : AllGo l (length l - length (settle l)) → (o : Look) → look (a ∷ l) ≡ o
        → AllGo (a ∷ l) (length (a ∷ l) - length (kept_by o (a ∷ l) (settle l)))
    by f Drops g i h = goes-next a l (inl g) f i h
    by f Waits g i h = absurd (omega arith)
    by f Loses g i h = goes-next a l (inr g) f i h
    by f (Settles m) g i h = absurd (omega arith)

pub dropped-go : (l : List ℕ) (i : ℕ) → i < length l - length (settle l) → Goes (look (drop i l))
unfolding AllGo
dropped-go l i h = all_go l i h

-- ---- what a look says, by bytes

-- a record of its kind at the front would settle
not-whole : (n : ℕ) (l : List ℕ) → look l ≡ Loses → WholeRecord (take n l) → ⊥
not-whole n l e r =
    let x = whole-settles (take n l) r in
    let s : look l ≡ Settles x.0 =
    ap look (sym (take-append-drop n l)) ∙ settled-append (take n l) (drop n l) x.0 x.1.1 in
    let z : ◌≡◌ {A = ℕ} 0 1 = cc in
    omega arith

-- what follows from each way in which a look can end
record Says (l : List ℕ) (o : Look) : Type 0 where
  goes : look l ≡ o → Goes o → Unfit l
  waits : o ≡ Waits → Waiting l

says-waits : (l : List ℕ) → Waiting l → Says l Waits
says-waits l w = record { goes = λ e g. absurd (stays g); waits = λ e. w }
  where
    stays : Goes Waits → ⊥
    stays (inl q) = let z : ◌≡◌ {A = ℕ} 0 1 = cc in omega arith
    stays (inr q) = let z : ◌≡◌ {A = ℕ} 0 1 = cc in omega arith

says-settles : (l : List ℕ) (k : Kind) → Says l (Settles k)
says-settles l k = record { goes = λ e g. absurd (stays g); waits = λ q. let z : ◌≡◌ {A = ℕ} 0 1 = cc in absurd (omega arith) }
  where
    stays : Goes (Settles k) → ⊥
    stays (inl q) = let z : ◌≡◌ {A = ℕ} 0 1 = cc in omega arith
    stays (inr q) = let z : ◌≡◌ {A = ℕ} 0 1 = cc in omega arith

says-goes : (l : List ℕ) (o : Look) → (look l ≡ o → Unfit l) → (o ≡ Waits → ⊥) → Says l o
says-goes l o u w = record { goes = λ e g. u e; waits = λ e. absurd (w e) }

full-says : (l : List ℕ) (k : Kind) → (length l < length_of k → Waiting l) → (look l ≡ Loses → length_of k ≤ length l → Unfit l)
    → Says l (full_look k l)
full-says l k w u =
    cond-by (Says l) (ltb (length l) (length_of k)) (λ t. says-waits l (w (ltb-true (length l) (length_of k) t))) (λ t.
    cond-by (Says l) (good_kind k l) (λ g. says-settles l k)
    (λ g. says-goes l Loses (λ e. u e (ltb-false (length l) (length_of k) t)) (λ q. let z : ◌≡◌ {A = ℕ} 0 1 = cc in omega arith)))

-- a second byte that makes no mark is no kind's
no-mark : (b : ℕ) (k : Kind) → None ≡ mark_of b → b ≡ (row_of k).mark → ⊥
no-mark b k e q = let w = of-mark b k q in let z : ◌≡◌ {A = ℕ} 0 1 = cc in omega arith

marked-says : (l : List ℕ) → get_or l 0 0 ≡ mark_byte → 2 ≤ length l → (m : Option Kind) → m ≡ mark_of (get_or l 1 0) → Says l (marked_look m l)
unfolding marked_look row_of
marked-says l m n None e =
    says-goes l Drops (λ q. no_kind n (no-mark (get_or l 1 0) Minor e) (no-mark (get_or l 1 0) Major e))
    (λ q. let z : ◌≡◌ {A = ℕ} 0 1 = cc in omega arith)
marked-says l m n (Some k) e = kind-says k (mark-of (get_or l 1 0) k e)
  where
    kind-says : (k : Kind) → get_or l 1 0 ≡ (row_of k).mark → Says l (full_look k l)
    kind-says Minor b = full-says l Minor (λ s. minor m b s) (λ q s. bad_minor b s (λ r. not-whole minor_length l q (inl r)))
    kind-says Major b = full-says l Major (λ s. major m b s) (λ q s. bad_major b s (λ r. not-whole major_length l q (inr r)))

look-says : (l : List ℕ) → Says l (look l)
unfolding look
look-says l =
    cond-by (Says l) (eqb (length l) 0) (λ t. says-waits l (empty (eqb-true (length l) 0 t))) (λ t.
    let some = eqb-false (length l) 0 t in
    cond-by (Says l) (eqb (get_or l 0 0) mark_byte) (λ s.
    let m = eqb-true (get_or l 0 0) mark_byte s in
    cond-by (Says l) (eqb (length l) 1) (λ r. says-waits l (begun (eqb-true (length l) 1 r) m)) (λ r.
    let more = eqb-false (length l) 1 r in
    marked-says l m (omega arith) (mark_of (get_or l 1 0)) refl))
    (λ s. says-goes l Drops (λ q. no_mark (eqb-false (get_or l 0 0) mark_byte s)) (λ q. let z : ◌≡◌ {A = ℕ} 0 1 = cc in omega arith)))

pub goes-unfit : (l : List ℕ) → Goes (look l) → Unfit l
goes-unfit l g = (look-says l).goes refl g

pub waits-waiting : (l : List ℕ) → look l ≡ Waits → Waiting l
waits-waiting l e = (look-says l).waits e
