-- Reading in place: the bytes held are the first n of those that stand in the piece. Bytes are dropped, waited for and settled as in the
-- store. Assumes nothing.
use Rattle.std.proofs.Common.{◌≡◌, ℕ, zero, suc, ◌-◌, ◌<◌, ◌≤◌, true, false, eqb, ltb, List, [], ◌∷◌, ◌++◌, length, get_or, take, drop, sym, refl, ap, ◌∙◌, ap₂, inl, inr, ⊎_elim, eq-or-lt_of_le, arith, take-append-drop, drop-cons, take-suc, ne_eqb, eqb-true, Option, None, Some}
use lib.Seq.{take-length, drop-length}
use Rattle.feed.specs.Size.{mark_byte}
use Rattle.feed.specs.Format.{mark_of, length_of, full_look, good_kind, marked_look, look, settles}
use Rattle.feed.specs.Reader.{settle, reads, Stop}
use Rattle.feed.specs.declared.format.Kind.{Kind}
use Rattle.feed.specs.declared.format.Look.{Look}
use Rattle.feed.specs.declared.format.Look.TheVariants.{Drops, Waits, Loses, Settles}
use Rattle.feed.proofs.Records.Lengths.{by-test, cond-by}
use Rattle.feed.proofs.Records.Looks.{look-append, look-marked}
use Rattle.feed.proofs.Reading.Settling.{settle_goes, settle-waits, settle-settled}
use Rattle.feed.proofs.Reading.Reads.{reads-found, reads_end, reads_more, reads_same}

-- the first n bytes are held, and those behind are read
abbrev pub cut : ℕ → List ℕ → Stop
cut n p = reads (take n p) (drop n p)

-- ---- a byte that cannot begin a mark

-- one byte tells, or two
pub drops-one : (b : ℕ) (p : List ℕ) → eqb b mark_byte ≡ false → look (b ∷ p) ≡ Drops
unfolding look
drops-one b p t = simp (ne_eqb (length (b ∷ p)) 0 (λ q. omega arith), t)

waits_one : (b : ℕ) → eqb b mark_byte ≡ true → look (b ∷ []) ≡ Waits
unfolding look
waits_one b t = simp t

look-two : (b c : ℕ) (p : List ℕ) → eqb b mark_byte ≡ true → look (b ∷ c ∷ p) ≡ marked_look (mark_of c) (b ∷ c ∷ p)
look-two b c p t = look-marked (b ∷ c ∷ p) (mark_of c) (λ q. omega arith) (eqb-true b mark_byte t) (λ q. omega arith) refl

full-drops : (k : Kind) (l : List ℕ) → full_look k l ≡ Drops → ⊥
full-drops k l =
    cond-by (λ (o : Look). o ≡ Drops → ⊥) (ltb (length l) (length_of k)) (λ t e. let z : ◌≡◌ {A = ℕ} 0 1 = cc in omega arith) (λ t.
    cond-by (λ (o : Look). o ≡ Drops → ⊥) (good_kind k l)
    (λ g e. let z : ◌≡◌ {A = ℕ} 0 1 = cc in omega arith) (λ g e. let z : ◌≡◌ {A = ℕ} 0 1 = cc in omega arith))

marked-drops : (m : Option Kind) (l n : List ℕ) → marked_look m l ≡ Drops → marked_look m n ≡ Drops
unfolding marked_look
marked-drops None l n e = refl
marked-drops (Some k) l n e = absurd (full-drops k l e)

drops-two : (b c : ℕ) (p q : List ℕ) → look (b ∷ c ∷ p) ≡ Drops → look (b ∷ c ∷ q) ≡ Drops
drops-two b c p q e =
    by-test (eqb b mark_byte)
    (λ t. look-two b c q t ∙ marked-drops (mark_of c) (b ∷ c ∷ p) (b ∷ c ∷ q) (sym (look-two b c p t) ∙ e))
    (λ t. drops-one b (c ∷ q) t)

-- nothing is held: the byte is taken
reads_first : (b : ℕ) (p : List ℕ) → reads [] (b ∷ p) ≡ reads (b ∷ []) p
unfolding settle look
reads_first b p = reads_more [] p b refl

reads-junk : (b : ℕ) (p : List ℕ) → look (b ∷ p) ≡ Drops → reads (b ∷ []) p ≡ reads [] p
reads-junk b p e =
    by-test (eqb b mark_byte) (mark p e) (λ t. reads_same (b ∷ []) [] p (settle_goes b [] (inl (drops-one b [] t))))
  where
    mark : (p : List ℕ) → look (b ∷ p) ≡ Drops → eqb b mark_byte ≡ true → reads (b ∷ []) p ≡ reads [] p
    mark [] e t = let w = waits_one b t in let z : ◌≡◌ {A = ℕ} 0 1 = cc in absurd (omega arith)
    mark (c ∷ p) e t =
        let w = waits_one b t in
        let s = settle-waits (b ∷ []) w in
        reads_more (b ∷ []) p c (ap (λ (v : List ℕ). settles (look v)) s ∙ ap settles w)
        ∙ ap (λ (v : List ℕ). reads (v ++ (c ∷ [])) p) s
        ∙ reads_same (b ∷ c ∷ []) (c ∷ []) p (settle_goes b (c ∷ []) (inl (drops-two b c p [] e)))
        ∙ sym (reads_first c p)

-- it is passed over, held or not
held-drops : (n b : ℕ) (p : List ℕ) → look (b ∷ p) ≡ Drops → cut (suc n) (b ∷ p) ≡ cut n p
held-drops zero b p e = reads-junk b p e
held-drops (suc n) b [] e = reads-junk b [] e
held-drops (suc n) b (c ∷ p) e =
    reads_same (b ∷ c ∷ take n p) (c ∷ take n p) (drop n p) (settle_goes b (c ∷ take n p) (inl (drops-two b c p (take n p) e)))

pub cut-drops : (n b : ℕ) (p : List ℕ) → look (b ∷ p) ≡ Drops → cut n (b ∷ p) ≡ cut (n - 1) p
cut-drops zero b p e = reads_first b p ∙ reads-junk b p e
cut-drops (suc n) b p e = let m : n ≡ suc n - 1 = omega arith in held-drops n b p e ∙ ap (λ (i : ℕ). cut i p) m

-- ---- bytes that are waited for

cut-more : (p : List ℕ) (i : ℕ) → i < length p → look (take i p) ≡ Waits → cut i p ≡ cut (suc i) p
cut-more p i a w =
    let s = settle-waits (take i p) w in
    let x = get_or p i 0 in
    ap (reads (take i p)) (drop-cons p i 0 a)
    ∙ reads_more (take i p) (drop (suc i) p) x (ap (λ (v : List ℕ). settles (look v)) s ∙ ap settles w)
    ∙ ap (λ (v : List ℕ). reads (v ++ (x ∷ [])) (drop (suc i) p)) s
    ∙ ap (λ (v : List ℕ). reads v (drop (suc i) p)) (sym (take-suc p i 0 a))

pub cut-waited : (m n : ℕ) (p : List ℕ) → n ≤ m → m ≤ length p → ((i : ℕ) → i < m → look (take i p) ≡ Waits) → cut n p ≡ cut m p
cut-waited zero n p h a w = let e : n ≡ 0 = omega arith in ap (λ (i : ℕ). cut i p) e
cut-waited (suc m) n p h a w =
    ⊎_elim (λ (e : n ≡ suc m). ap (λ (i : ℕ). cut i p) e)
    (λ l. cut-waited m n p (omega arith) (omega arith) (λ i b. w i (omega arith)) ∙ cut-more p m (omega arith) (w m (omega arith)))
    (eq-or-lt_of_le h)

-- the reader waits with all bytes held
pub cut-waits : (p : List ℕ) (n : ℕ) → n ≤ length p → look p ≡ Waits → cut n p ≡ record { left = p; rest = [] }
cut-waits p n h e =
    let prefix : (i : ℕ) → look (take i p) ≡ Waits =
    λ i. ⊎_elim (λ w. w) (λ s. sym s ∙ ap look (take-append-drop i p) ∙ e) (look-append (take i p) (drop i p)) in
    cut-waited (length p) n p h (omega arith) (λ i l. prefix i)
    ∙ ap₂ reads (take-length p) (drop-length p)
    ∙ reads_end p
    ∙ ap (λ (l : List ℕ). record { left = l; rest = [] }) (settle-waits p e)

-- ---- a full record at the front

pub cut-lost : (n b : ℕ) (p : List ℕ) → look (b ∷ take n p) ≡ Loses → cut (suc n) (b ∷ p) ≡ cut n p
cut-lost n b p e = reads_same (b ∷ take n p) (take n p) (drop n p) (settle_goes b (take n p) (inr e))

pub cut-settled : (n : ℕ) (p : List ℕ) (k : Kind) → look (take n p) ≡ Settles k
    → cut n p ≡ record { left = take n p; rest = drop n p }
cut-settled n p k e =
    let s = settle-settled (take n p) k e in
    reads-found (take n p) (drop n p) (ap (λ (v : List ℕ). settles (look v)) s ∙ ap settles e)
    ∙ ap (λ (v : List ℕ). record { left = v; rest = drop n p }) s
