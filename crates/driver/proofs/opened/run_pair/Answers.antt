use Rattle.std.proofs.Common.{◌≡◌, ℕ, List, length, refl, arith, rules}
use Rattle.std.proofs.lemmas.Grind.{common_steps}
use Rattle.std.proofs.lemmas.Bool.Decides.{nat_tests}
use Rattle.aka.specs.Views.{handed_in}
use Rattle.session.specs.Log.{Fresh}
use Rattle.driver.specs.Opened.{fresh_pair, pair_ground}
use Rattle.driver.proofs.opened.run_pair.Goals as goal

pub returns : goal.returns
returns g c =
    let opc = c.args.opc.now in
    let constants = c.args.constants.now in
    let z = c.args.sizes in
    let n : List ℕ = c.args.network_number.now in
    let m : List ℕ = c.args.card_number.now in
    let a = c.in_ok-network.ensures in
    let b = c.in_ok-card.ensures in
    let none : pair_ground opc constants z n m ≡ 0 = search (rules, common_steps) in
    let n_long : length n ≡ z.sqn = grind (arith, nat_tests, common_steps, a.0) in
    let m_long : length m ≡ z.sqn = grind (arith, nat_tests, common_steps, b.0) in
    let s = handed_in (g.K.Kernel.forth c.args.network_kernel) opc constants z in
    let t = handed_in (g.L.Kernel.forth c.args.card_kernel) opc constants z in
    let fresh : Fresh s t (fresh_pair n m) =
    record {
      given = refl;
      pending = refl;
      number_long = n_long;
      number_bytes = λ i. (c.type_inv.network_number i).fits;
      card_long = m_long;
      card_bytes = λ i. (c.type_inv.card_number i).fits;
    } in
    let drove = rw (a.1.0, b.1.0, a.1.1, b.1.1) at c.in_ok-drive.ensures.drives in (
      none,
      record {
        driven = drove.driven;
        session = drove.leads.session;
        shows = λ agree. drove.shows fresh (record { forth = agree; opc = refl; constants = refl; sizes = refl });
      },
    )
