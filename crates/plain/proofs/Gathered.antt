-- The laws, gathered.
use Rattle.plain.specs.Record.{run, new}
use Rattle.plain.specs.Laws.{RecordLaws}
use Rattle.plain.proofs.Runs.{fine_run, fine_new}
use Rattle.plain.proofs.Numbers.{counted}
use Rattle.plain.proofs.Expiring.{expiring_stand}
use Rattle.plain.proofs.Unbroken.{unbroken}
use Rattle.plain.proofs.Kept.{kept_record, kept_answers}
use Rattle.plain.proofs.Swept.{orphans_once}
use Rattle.plain.proofs.Amended.{amended_stands}
use Rattle.plain.proofs.Whole.{whole_laws}
use Rattle.plain.proofs.Wanting.{draw_refused, issue_refused, amend_refused, draw_names}

pub record_laws : RecordLaws
record_laws =
    record {
      runs = λ size means put see.
          record {
            fine = λ past. fine_run size means put see past new fine_new;
            numbers_rise = λ calls. counted size means put see calls new;
            expiring_stand = expiring_stand size means put see;
            unbroken = unbroken size means put see;
            draw_refused = draw_refused size means put see;
            issue_refused = issue_refused size means put see;
            amend_refused = amend_refused size means put see;
            draw_names = λ past. draw_names size means put see (run size means put see new past) (fine_run size means put see past new fine_new).rising;
            amended_stands = amended_stands size means put see;
            orphans_once = orphans_once size means put see;
          };
      kept_record = λ size means calls. kept_record size means calls new fine_new;
      lawful = whole_laws;
      kept_answers = λ size means calls. kept_answers size means calls new fine_new;
    }
