-- What the engine promises. Each is a statement, a type whose proof stands on the contract of a function. Assumes nothing: these are definitions.
use Rattle.std.specs.Prelude.{◌≡◌, ℕ, zero, suc, ◌+◌, ◌*◌, ◌/◌, ◌<◌, ◌≤◌, Bool, true, false, not, ◌&&◌, ◌⊎◌, List, [], ◌∷◌, ◌++◌, length, ◌==◌, nat_eq, nat_le}
use Rattle.pages.specs.Lists.{pick, every, any, those}
use Rattle.pages.specs.Device.{Write, Device, page_at, read_page, flushed, stopped}
use Rattle.documents.specs.Document.{Doc, long}
use Rattle.questions.specs.Query.{Query, word, phrase, begins, both, either, but, matches}
use Rattle.questions.specs.Points.{Sought, how_often, having, rarity, worth}
use Rattle.questions.specs.Order.{Hit, better, found}
use Rattle.questions.specs.Places.{places, parts}
use Rattle.reports.specs.Command.{Command, put, remove, note, ask, how_many, fetch, list_words, sweep, spelled, fits}
use Rattle.reports.specs.Plain.{Plain, Turn, turn, after_stop, weight}
use Rattle.reports.specs.Run.{Engine, Item, proper, Right, new_world, Steady}

abbrev pub Never : Type 0
Never = zero ≡ suc zero

unfoldable pub Said : List ℕ → Command → Type 0
Said text c = (spelled c ≡ text) × (fits c ≡ true)

-- how many pages a command may read and write: what an asking has to do with are the places of its words, in documents asked and in versions gone since the
-- last sweep; nothing is said of put, remove, note and sweep, which may put things in order
unfoldable pub may_use : Plain → Command → ℕ → Bool
may_use w (put n t b) r = true
may_use w (remove n) r = true
may_use w note r = true
may_use w (ask k q) r = nat_le r (256 + 64 * parts q + 4 * places (w.asked ++ w.gone) q)
may_use w (how_many q) r = nat_le r (256 + 64 * parts q + 4 * places (w.asked ++ w.gone) q)
may_use w (fetch n) r = nat_le r 512
may_use w (list_words p k) r = nat_le r (256 + 64 * k + 4 * places (w.asked ++ w.gone) (begins 0 p))
may_use w sweep r = true

-- a command that is known: the plain engine's turn, within what may be used; or no room, only if a sixteenth of the pages holds less than there is
unfoldable pub KnownMay : ℕ → Plain → Command → Turn → List (List ℕ) → ℕ → ℕ → Plain → Type 0
KnownMay pages w a t ss r reply w₁ =
    ((reply ≡ t.reply) × (ss ≡ t.shows) × (w₁ ≡ t.next) × (may_use w a r ≡ true))
    ⊎ ((reply ≡ 8) × (ss ≡ []) × (w₁ ≡ w) × (t.reply ≡ 0) × (weight w < weight t.next) × (32 * pages < weight t.next))

unfoldable pub May : (Command → Bool) → ℕ → Plain → List ℕ → List (List ℕ) → ℕ → ℕ → Plain → Type 0
May known pages w text ss r reply w₁ =
    ((a : Command) × Said text a × (known a ≡ true) × KnownMay pages w a (turn w a) ss r reply w₁)
    ⊎ (((a : Command) × Said text a × (known a ≡ false) × (reply ≡ 2) × (ss ≡ []) × (w₁ ≡ w))
    ⊎ (((a : Command) → Said text a → Never) × (reply ≡ 1) × (ss ≡ []) × (w₁ ≡ w)))

-- THE MAIN PROMISE: for all devices and all that can happen, beside the plain engine
unfoldable pub Whole : (Command → Bool) → Engine → Type 0
Whole known e =
    Steady e
    × ((pages : ℕ) (is : List Item) → 256 ≤ pages → pages ≤ 16777216 → length is ≤ 4294967296 → proper false is ≡ true →
    Right (May known pages) after_stop e (new_world pages) (record { asked = []; coming = []; gone = [] }) is)

-- 1. No two commands are spelled alike.
unfoldable pub SpelledOnce : Type 0
SpelledOnce = (a c : Command) → fits a ≡ true → fits c ≡ true → spelled a ≡ spelled c → a ≡ c

-- 2. The best first: all that match, each once, and whoever stands before another is better.
unfoldable pub nth : Hit → List Hit → ℕ → Hit
nth d [] i = d
nth d (h ∷ hs) zero = h
nth d (h ∷ hs) (suc i) = nth d hs i

unfoldable pub distinct : List Doc → Bool
distinct [] = true
distinct (d ∷ ds) = not (any (λ c. nat_eq c.name d.name) ds) && distinct ds

abbrev pub no_hit : Hit
no_hit = record { doc = 0; points = 0 }

unfoldable pub FoundInOrder : Type 0
FoundInOrder =
    (ds : List Doc) (q : Query) → distinct ds ≡ true →
    (length (found ds q) ≡ length (those (λ d. matches d q) ds))
    × ((i j : ℕ) → i < j → j < length (found ds q) → better (nth no_hit (found ds q) i) (nth no_hit (found ds q) j) ≡ true)

-- 3. The order in which documents came makes no difference.
unfoldable pub AnyOrder : Type 0
AnyOrder = (ds es : List Doc) (d c : Doc) (q : Query) → distinct (ds ++ d ∷ c ∷ es) ≡ true → found (ds ++ d ∷ c ∷ es) q ≡ found (ds ++ c ∷ d ∷ es) q

-- 4. A bound for skipping: what a word is worth in a document is at most what it is worth at best, so a document whose words' bests come to no more
-- than the last of the best so far, and whose name is higher, need not be looked at.
unfoldable pub at_best : List Doc → Sought → ℕ → ℕ
at_best ds s most = rarity (length ds) (having ds s) * (1000 * most) / (most + 1)

unfoldable pub WorthBounded : Type 0
WorthBounded = (ds : List Doc) (d : Doc) (s : Sought) (most : ℕ) → how_often d s ≤ most → worth ds d s ≤ at_best ds s most

-- 5. A phrase matches only where its words do, and a phrase of one word is the word.
unfoldable pub PhraseWords : Type 0
PhraseWords =
    ((d : Doc) (f : ℕ) (ws : List (List ℕ)) → matches d (phrase f ws) ≡ true → every (λ w. matches d (word f w)) ws ≡ true)
    × ((d : Doc) (f : ℕ) (w : List ℕ) → matches d (phrase f (w ∷ [])) ≡ matches d (word f w))

-- 6. What matches by and, or and not is as it should be, whatever way round.
unfoldable pub Sets : Type 0
Sets =
    (d : Doc) (q r s : Query) →
    (matches d (both q r) ≡ matches d (both r q)) × (matches d (both q (either r s)) ≡ matches d (either (both q r) (both q s)))
    × (matches d (but q (either r s)) ≡ matches d (but (but q r) s))

-- 7. What isn't noted isn't asked: between two notes every asking shows the same, whatever is put and removed.
unfoldable pub turns : Plain → List Command → Plain
turns w [] = w
turns w (c ∷ cs) = turns (turn w c).next cs

unfoldable pub not_noting : Command → Bool
not_noting (put n t b) = true
not_noting (remove n) = true
not_noting note = false
not_noting (ask k q) = true
not_noting (how_many q) = true
not_noting (fetch n) = true
not_noting (list_words p k) = true
not_noting sweep = false

unfoldable pub SameTillNoted : Type 0
SameTillNoted = (w : Plain) (cs : List Command) (k : ℕ) (q : Query) → every not_noting cs ≡ true → (turn (turns w cs) (ask k q)).shows ≡ (turn w (ask k q)).shows

-- 8. A word's worth rises with how often it stands and falls with length, all else equal.
unfoldable pub Fair : Type 0
Fair =
    (ds : List Doc) (d c : Doc) (s : Sought) →
    (how_often d s ≤ how_often c s → long d ≡ long c → worth ds d s ≤ worth ds c s)
    × (how_often d s ≡ how_often c s → long d ≤ long c → worth ds c s ≤ worth ds d s)

-- 9. What was flushed stays, whatever a stop leaves of later writes to other pages.
unfoldable pub elsewhere : ℕ → List Write → Bool
elsewhere k [] = true
elsewhere k (q ∷ qs) = pick (q.at == k) false (elsewhere k qs)

unfoldable pub FlushedStays : Type 0
FlushedStays =
    (d : Device) (qs : List Write) (cs : List ℕ) (k : ℕ) → elsewhere k qs ≡ true →
    page_at (stopped (record { pages = (flushed d).pages; queue = qs }) cs).pages k ≡ read_page d k
