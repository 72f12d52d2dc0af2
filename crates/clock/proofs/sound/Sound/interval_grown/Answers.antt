-- `clock::sound::Sound::interval_grown`: the flag is 0 or 1, and says how far the interval may go.
use borrow.Author.Rules.{rules}
use Rattle.state.proofs.Ok.{ok}
use Rattle.clock.proofs.sound.Sound.interval_grown.Goals as goal

pub returns-then-n-self : goal.returns-then-n-self
returns-then-n-self c =
    let k = ok _ c.args.self.in_range in
    search (rules, k.updated, k.interval)

pub returns : goal.returns
returns c =
    let k = ok _ c.args.self.in_range in
    search (rules, k.updated, k.interval)
