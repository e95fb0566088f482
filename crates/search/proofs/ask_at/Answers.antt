-- `search::ask_at` meets its contract: what Ask answers where no refusal fits.
use mathlib.Core.Path.{◌≡◌, refl}
use Rattle.search.proofs.Asking.{asks}
use Rattle.search.proofs.ask_at.Goals as goal

pub unwrap-requires : goal.unwrap-requires
unwrap-requires c = rw (asks _ c.args.admitted.now.admitted _ _ c.requires c.ask.result _ _ _ refl c.ask.ensures).1

pub returns : goal.returns
returns c = let a = asks _ c.args.admitted.now.admitted _ _ c.requires c.ask.result _ _ _ refl c.ask.ensures in
    let same : a.0 ≡ c.unwrap.result = cc in
    rw same at a.2
