-- A run over any rasters. The contracts say what a raster shows after a call, at every row and place inside its extent, and nothing of what
-- it has elsewhere. So its chain is known up to that.
use Rattle.std.specs.Prelude.{◌≡◌, ℕ, ◌<◌, List, [], ◌∷◌}
use Rattle.damage.specs.Chain.{Grid, Chain}
use Rattle.damage.specs.Calls.{Call, Answer, answer, after}
use Rattle.damage.specs.Runs.{run}

-- two grids show the same words
pub record Shows (g h : Grid) : Type 0 where
  pub rows : g.rows ≡ h.rows
  pub words : g.words ≡ h.words
  pub word : (i j : ℕ) → i < g.rows → j < g.words → g.word i j ≡ h.word i j

-- two chains that nobody can tell apart
pub record Like (one two : Chain) : Type 0 where
  pub format : one.format ≡ two.format
  pub next : one.next ≡ two.next
  pub opened : one.opened ≡ two.opened
  pub picture : one.picture ≡ two.picture
  pub slab : (s : ℕ) → Shows (one.slab s) (two.slab s)
  pub sheet : (s : ℕ) → one.sheet s ≡ two.sheet s
  pub table : (t : ℕ) → one.table t ≡ two.table t
  pub image : (i : ℕ) → one.image i ≡ two.image i

-- a run over rasters: each call leaves a chain that shows what the contracts say, and the answers are those of the chains it met
pub data Lives : Chain → List Call → Chain → Type 0 where
  rests : {one : Chain} → Lives one [] one
  moves : {one two last : Chain} {call : Call} {calls : List Call} → Like (after one call) two → Lives two calls last → Lives one (call ∷ calls) last

abbrev pub heard : {one last : Chain} {calls : List Call} → Lives one calls last → List Answer
heard rests = []
heard (moves {one} {two} {last} {call} {calls} like rest) = answer one call ∷ heard rest

abbrev pub trace : Chain → List Call → List Answer
trace ch [] = []
trace ch (call ∷ calls) = answer ch call ∷ trace (after ch call) calls

-- it shows the words, and gets the answers, of the run of the definitions
abbrev pub Covers : Type 0
Covers = (one last : Chain) (calls : List Call) (lives : Lives one calls last) → Like (run one calls) last × (heard lives ≡ trace one calls)
