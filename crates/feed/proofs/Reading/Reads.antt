-- What a call reads: how it stops and goes on, and that with the rest of its piece it leaves what settling all bytes at once leaves.
-- Assumes nothing.
use Rattle.std.proofs.Common.{◌≡◌, ℕ, ◌≤◌, true, false, cond, List, [], ◌∷◌, ◌++◌, length, sym, refl, ap, ◌∙◌, append-nil, arith, length-append}
use Rattle.bits.proofs.Yes.{not-both}
use lib.Seq.{append_snoc}
use Rattle.feed.specs.Size.{store_length, most_held}
use Rattle.feed.specs.Format.{look, settles}
use Rattle.feed.specs.Reader.{settle, reads}
use Rattle.feed.proofs.Records.Lengths.{by-test}
use Rattle.feed.proofs.Reading.Settling.{settle-append, settle-found}
use Rattle.feed.proofs.Reading.Fronts.{settle-short, waits-short}

-- the three ways in which a turn goes
pub reads-found : (h p : List ℕ) → settles (look (settle h)) ≡ true → reads h p ≡ record { left = settle h; rest = p }
unfolding reads
reads-found h [] e = refl
reads-found h (x ∷ p) e = simp e

pub reads_end : (h : List ℕ) → reads h [] ≡ record { left = settle h; rest = [] }
unfolding reads
reads_end h = refl

pub reads_more : (h p : List ℕ) (x : ℕ) → settles (look (settle h)) ≡ false → reads h (x ∷ p) ≡ reads (settle h ++ (x ∷ [])) p
unfolding reads
reads_more h p x e = simp e

-- what is read hangs on what is settled alone
pub reads_same : (h m p : List ℕ) → settle h ≡ settle m → reads h p ≡ reads m p
unfolding reads
reads_same h m [] e = ap (λ (l : List ℕ). record { left = l; rest = [] }) e
reads_same h m (x ∷ p) e =
    ap (λ (l : List ℕ). cond (settles (look l)) (record { left = l; rest = x ∷ p }) (reads (l ++ (x ∷ [])) p)) e

-- what a call leaves, with the rest of its piece, is what settling all bytes at once leaves; and it shows the same
abbrev pub AsWhole : List ℕ → List ℕ → Type 0
AsWhole h p = ((reads h p).left ++ (reads h p).rest ≡ settle (h ++ p)) × (look (reads h p).left ≡ look (settle (h ++ p)))

whole-more : (h p : List ℕ) (x : ℕ) → AsWhole (settle h ++ (x ∷ [])) p → AsWhole h (x ∷ p)
whole-more h p x i = by-test (settles (look (settle h)))
    (λ t.
    let f = settle-found h (x ∷ p) t in
    rw (reads-found h (x ∷ p) t) (sym f.0, sym (ap look f.0 ∙ f.1)))
    (λ t.
    let s : settle (settle h ++ (x ∷ []) ++ p) ≡ settle (h ++ (x ∷ p))
    = ap settle (append_snoc (settle h) x p) ∙ sym (settle-append h (x ∷ p)) in
    rw (reads_more h p x t) (i.0 ∙ s, i.1 ∙ ap look s))

pub reads_whole : (h p : List ℕ) → AsWhole h p
unfolding reads
reads_whole h [] = (append-nil (settle h) ∙ ap settle (sym (append-nil h)), ap (λ (l : List ℕ). look (settle l)) (sym (append-nil h)))
reads_whole h (x ∷ p) = whole-more h p x (reads_whole (settle h ++ (x ∷ [])) p)

-- a call that finds no record has used the whole piece
RestNone : List ℕ → List ℕ → Type 0
RestNone h p = settles (look (reads h p).left) ≡ false → (reads h p).rest ≡ []

rest_more : (h p : List ℕ) (x : ℕ) → RestNone (settle h ++ (x ∷ [])) p → RestNone h (x ∷ p)
unfolding RestNone
rest_more h p x i z = by-test (settles (look (settle h)))
    (λ t. not-both (settles (look (settle h))) t (rw (reads-found h (x ∷ p) t) at z))
    (λ t. let e = reads_more h p x t in rw e (i (rw e at z)))

rest_all : (h p : List ℕ) → RestNone h p
unfolding RestNone reads
rest_all h [] z = refl
rest_all h (x ∷ p) z = rest_more h p x (rest_all (settle h ++ (x ∷ [])) p) z

pub rest-none : (h p : List ℕ) → settles (look (reads h p).left) ≡ false → (reads h p).rest ≡ []
unfolding RestNone
rest-none h p z = rest_all h p z

-- what is left fits the store
shorter : (h p : List ℕ) (x : ℕ) → length h ≤ store_length
    → (length (settle h ++ (x ∷ [])) ≤ store_length → length (reads (settle h ++ (x ∷ [])) p).left ≤ store_length)
    → length (reads h (x ∷ p)).left ≤ store_length
shorter h p x k i = by-test (settles (look (settle h)))
    (λ t. let y = settle-short h in rw (reads-found h (x ∷ p) t) (omega arith))
    (λ t. let y = waits-short h t in rw (reads_more h p x t) (i (simp length-append (omega arith))))

pub reads_short : (h p : List ℕ) → length h ≤ store_length → length (reads h p).left ≤ store_length
unfolding reads
reads_short h [] k = let y = settle-short h in omega arith
reads_short h (x ∷ p) k = shorter h p x k (λ m. reads_short (settle h ++ (x ∷ [])) p m)

-- and where nothing is shown it leaves a place free
pub reads-waits : (h p : List ℕ) → settles (look (reads h p).left) ≡ false → length (reads h p).left ≤ most_held
reads-waits h p z =
    let w = reads_whole h p in
    let e : (reads h p).left ≡ settle (h ++ p)
    = sym (append-nil _) ∙ ap (λ (t : List ℕ). (reads h p).left ++ t) (sym (rest-none h p z)) ∙ w.0 in
    rw e (waits-short (h ++ p) (ap settles (sym w.1) ∙ z))
