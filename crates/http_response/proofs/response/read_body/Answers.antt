use Rattle.http_response.proofs.response.read_body.Goals as goal

pub returns-in-Length : goal.returns-in-Length
returns-in-Length c = c.read_counted.ensures c.args.ended

pub returns-in-Chunked : goal.returns-in-Chunked
returns-in-Chunked c = c.read_chunked.ensures c.args.ended
